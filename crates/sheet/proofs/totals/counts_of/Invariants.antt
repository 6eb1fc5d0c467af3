-- The loop counts the records and words of the places passed (`Counted`). Assumes nothing.
use Rattle.network.specs.Places.{places_in}
use Rattle.sheet.specs.Totals.{Counted}
use Rattle.sheet.proofs.totals.counts_of.Given as goal

abbrev pub invariant-loop-p : goal.invariant-loop-p
invariant-loop-p l = Counted (places_in l.places) l.records l.words l.p
