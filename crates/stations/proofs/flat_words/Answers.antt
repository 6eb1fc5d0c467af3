-- The station that is read and put is the next one of the list (`flat_step`). Assumes nothing.
use Rattle.std.proofs.Common.{◌<◌, length, refl}
use native.Mathlib.Omega.{arith}
use borrow.Author.Rules.{rules}
use Rattle.network.specs.StationWords.{flat}
use Rattle.stations.specs.FlatLaws.{flat_step, read_most, read_within}
use Rattle.stations.proofs.flat_words.Goals as goal

pub loop-i-init : goal.loop-i-init
unfolding flat
loop-i-init c = refl

pub bounds-list-i : goal.bounds-list-i
bounds-list-i c = omega (arith, read_within (length c.args.list.now), c.read_count-n.ensures)

pub offset_bounds-list-i : goal.offset_bounds-list-i
offset_bounds-list-i c = record { fits = omega (arith, read_most (length c.args.list.now), c.read_count-n.ensures) }

pub put-requires : goal.put-requires
put-requires c = omega (arith, read_most (length c.args.list.now), c.read_count-n.ensures)

pub loop-i-preserved : goal.loop-i-preserved
loop-i-preserved c =
    let inside : c.loop-i.i < length c.args.list.now = omega (arith, read_within (length c.args.list.now), c.read_count-n.ensures) in
    flat_step c.args.list.now c.loop-i.i c.loop-i.out _ _ inside (search rules) c.loop-i.invariant c.put.ensures
