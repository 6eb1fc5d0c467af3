-- The counts are few, so the sum fits. Assumes nothing.
use native.Mathlib.Omega.{arith}
use Prim.Native.Nat.{◌+◌, ◌*◌}
use mathlib.Core.Path.{ap}
use Rattle.network.specs.Places.{places_in}
use Rattle.sheet.specs.declared.totals.Counts.{Counts}
use Rattle.sheet.specs.Sheet.{room}
use Rattle.sheet.specs.Totals.{counts_of, FewCounts, counts_few}
use Rattle.sheet.proofs.sheet.room_of.Goals as goal

pub overflow_add-result-2 : goal.overflow_add-result-2
overflow_add-result-2 c =
    let w : FewCounts c.counts_of-counts.result = rw c.counts_of-counts.ensures (counts_few (places_in c.args.places.now)) in
    omega (arith, c.requires.1, w.words)

pub returns : goal.returns
unfolding room counts_of
returns c = ap (λ (n : Counts). 5 + 7 * c.args.net.count + n.words) c.counts_of-counts.ensures
