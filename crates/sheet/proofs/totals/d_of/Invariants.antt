-- The loop adds what each record observes in the adjustment; the sum is small, so it fits. Assumes nothing.
use mathlib.Core.Path.{◌≡◌}
use Rattle.integers.specs.Sums.{sum_n}
use Rattle.network.specs.Records.{record_at}
use Rattle.network.specs.Places.{places_in}
use Rattle.sheet.specs.Totals.{share_din}
use Rattle.sheet.proofs.totals.d_of.Given as goal

abbrev pub invariant-loop-p : goal.invariant-loop-p
invariant-loop-p l = (l.observed ≡ sum_n l.p (λ k. share_din l.unknown (record_at (places_in l.places) k)))
