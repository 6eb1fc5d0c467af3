-- The loop fills the table from the front: `Mapped` is the invariant; an entry is 0 or 1, so the cast keeps it (`bit_cast`). Assumes nothing.
use borrow.Author.Rules.{rules}
use native.Mathlib.Omega.{arith}
use Prim.Native.Nat.{ℕ, ◌≤◌}
use mathlib.Core.Path.{ap, ◌∙◌}
use lib.IntN.{pos, nat_abs}
use mir.Syntax.{w64}
use mir.Val.{to_z}
use Rattle.network.specs.StationLaws.{unknown-bit}
use Rattle.lists.specs.Stored.{bit_cast, fits_by}
use Rattle.lists.specs.Filling.{starts, goes_on, finish}
use Rattle.network.proofs.stations.unknowns_of.Goals as goal

pub loop-q-init : goal.loop-q-init
loop-q-init c = starts (pos 0) 96 _ _ (search rules)

pub overflow_cast-out : goal.overflow_cast-out
overflow_cast-out c = let h : nat_abs (pos c.unknown_at.result) ≤ 1 = rw c.unknown_at.ensures (unknown-bit c.args.stations c.loop-q.q) in fits_by (pos c.unknown_at.result) h tt

pub loop-q-preserved : goal.loop-q-preserved
loop-q-preserved c =
    goes_on (pos 0) 96 _ _ c.loop-q.out c.loop-q.q _ (omega arith) c.loop-q.invariant
    (ap (λ (z : ℕ). to_z w64 z) c.unknown_at.ensures ∙ bit_cast _ (unknown-bit c.args.stations c.loop-q.q))

pub returns : goal.returns
returns c = finish (pos 0) 96 _ _ c.loop-q.out c.loop-q.q (omega arith) c.loop-q.invariant
