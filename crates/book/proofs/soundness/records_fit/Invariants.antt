-- `records_fit`, place by place. The loop's invariant: the records passed are by the rules. Assumes nothing.
use mathlib.Core.Path.{◌≡◌}
use Rattle.network.specs.Places.{places_in}
use mathlib.Core.Bool.{true}
use Rattle.lists.specs.All.{all_below}
use Rattle.network.specs.Records.{record_at}
use Rattle.network.specs.Rules.{record_fits}
use Rattle.book.proofs.soundness.records_fit.Given as goal

abbrev pub invariant-loop-p : goal.invariant-loop-p
invariant-loop-p l = all_below l.p (λ k. record_fits l.rules.network (record_at (places_in l.places) k)) ≡ true
