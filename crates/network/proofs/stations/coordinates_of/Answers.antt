-- The loop fills the table from the front: `Mapped` is the invariant; each coordinate is read back from its bits. Assumes nothing.
use borrow.Author.Rules.{rules, sfits_of}
use native.Mathlib.Omega.{arith}
use mathlib.Core.Path.{◌∙◌}
use lib.IntN.{pos}
use mir.ValLaws.{to_z-of_z}
use mir.Syntax.{w64}
use Rattle.lists.specs.Filling.{starts, goes_on, finish}
use Rattle.network.proofs.stations.coordinates_of.Goals as goal

pub loop-q-init : goal.loop-q-init
loop-q-init c = starts (pos 0) 96 _ _ (search rules)

pub loop-q-preserved : goal.loop-q-preserved
loop-q-preserved c =
    goes_on (pos 0) 96 _ _ c.loop-q.out c.loop-q.q _ (omega arith) c.loop-q.invariant
    (to_z-of_z w64 c.coordinate_at.result (sfits_of c.coordinate_at.type_inv) ∙ c.coordinate_at.ensures)

pub returns : goal.returns
returns c = finish (pos 0) 96 _ _ c.loop-q.out c.loop-q.q (omega arith) c.loop-q.invariant
