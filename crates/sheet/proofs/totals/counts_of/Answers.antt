-- The loop counts the records and words of the places passed (`Counted`). Assumes nothing.
use native.Mathlib.Omega.{arith}
use mathlib.Core.Path.{◌≡◌, ap, ◌∙◌}
use Rattle.network.specs.Places.{places_in}
use Rattle.residuals.specs.Residuals.{is_record}
use Rattle.sheet.specs.Sheet.{line_length}
use Rattle.sheet.specs.Totals.{record_one, words_few, none_counted, counted_more, counted_few, counted_all}
use Rattle.sheet.proofs.totals.counts_of.Goals as goal

pub loop-p-init : goal.loop-p-init
loop-p-init c = none_counted (places_in c.args.places.now)

pub overflow_add-records : goal.overflow_add-records
overflow_add-records c =
    let f = counted_few (places_in c.args.places.now) c.loop-p.invariant (omega (arith, c.loop-p-test.true)) in
    omega (arith, f, c.is_record-records.ensures, record_one c.record_at-r.result)

pub overflow_add-words : goal.overflow_add-words
overflow_add-words c =
    let f = counted_few (places_in c.args.places.now) c.loop-p.invariant (omega (arith, c.loop-p-test.true)) in
    omega (arith, f, c.words_in-words.ensures, words_few c.record_at-r.result)

pub loop-p-preserved : goal.loop-p-preserved
loop-p-preserved c = counted_more (places_in c.args.places.now) c.loop-p.invariant (c.is_record-records.ensures ∙ ap is_record c.record_at-r.ensures) (c.words_in-words.ensures ∙ ap line_length c.record_at-r.ensures)

pub returns : goal.returns
returns c =
    let e : c.loop-p.p ≡ 256 = omega arith in
    counted_all (places_in c.args.places.now) (rw e at c.loop-p.invariant)
