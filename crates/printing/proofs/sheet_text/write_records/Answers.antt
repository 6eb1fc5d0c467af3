-- The loop has written the lines of the places passed, and `word` is where the words of the next start (`record_start`). Assumes nothing.
use borrow.Author.Rules.{rules}
use native.Mathlib.Omega.{arith}
use Prim.Native.Nat.{ℕ, ◌≤◌, ◌+◌}
use mathlib.Core.Path.{◌≡◌, refl, ap, ap₂, ◌∙◌}
use mathlib.Core.List.{List, ◌++◌}
use lib.ListN.{length}
use Rattle.network.specs.Places.{places_in}
use Rattle.network.specs.declared.Place.{Place}
use Rattle.network.specs.declared.Record.{Record}
use Rattle.sheet.specs.Sheet.{line_length}
use Rattle.text.specs.Writing.{◌then◌, written_as}
use Rattle.printing.specs.SheetText.{record_text, record_texts, record_start}
use Rattle.printing.specs.SheetTextLaws.{records-start, start_zero, start-more, records-more, start_rises}
use Rattle.printing.proofs.sheet_text.write_records.Goals as goal

pub loop-p-init : goal.loop-p-init
loop-p-init c =
    let places = places_in c.args.places.now in
    (refl, omega arith, start_zero c.args.o places, records-start c.args.o places _ _ c.args.w.now)

pub write_record-next-requires : goal.write_record-next-requires
write_record-next-requires c =
    let places_of : List Place = places_in c.args.places.now in
    let next_start : c.loop-p.word + line_length c.record_at-r.result ≡ record_start c.args.o places_of (c.loop-p.p + 1) = ap₂ ◌+◌ c.loop-p.invariant.2 (ap line_length c.record_at-r.ensures) ∙ start-more c.args.o places_of c.loop-p.p in
    let next_fits : c.loop-p.word + line_length c.record_at-r.result ≤ length c.args.w.now = omega (arith, next_start, start_rises c.args.o places_of (c.loop-p.p + 1) 256 (omega (arith, c.loop-p-test.true)), c.requires.1) in
    (next_fits, search rules)

pub overflow_add-word : goal.overflow_add-word
overflow_add-word c =
    let places_of : List Place = places_in c.args.places.now in
    let next_start : c.loop-p.word + line_length c.record_at-r.result ≡ record_start c.args.o places_of (c.loop-p.p + 1) = ap₂ ◌+◌ c.loop-p.invariant.2 (ap line_length c.record_at-r.ensures) ∙ start-more c.args.o places_of c.loop-p.p in
    let next_fits : c.loop-p.word + line_length c.record_at-r.result ≤ length c.args.w.now = omega (arith, next_start, start_rises c.args.o places_of (c.loop-p.p + 1) 256 (omega (arith, c.loop-p-test.true)), c.requires.1) in
    omega (arith, next_fits, c.words_in-word.ensures, c.well_formed.1.1.0.0)

pub loop-p-preserved : goal.loop-p-preserved
loop-p-preserved c =
    let places_of : List Place = places_in c.args.places.now in
    let next_start : c.loop-p.word + line_length c.record_at-r.result ≡ record_start c.args.o places_of (c.loop-p.p + 1) = ap₂ ◌+◌ c.loop-p.invariant.2 (ap line_length c.record_at-r.ensures) ∙ start-more c.args.o places_of c.loop-p.p in (
      search rules,
      omega (arith, c.loop-p.invariant.1, c.write_record-next.ensures.upper_bound),
      ap (λ (n : ℕ). c.loop-p.word + n) c.words_in-word.ensures ∙ next_start,
      written_as
          (ap₂ (λ (o : ℕ) (q : Record). record_texts c.args.w.now c.args.o places_of c.loop-p.p ++ record_text c.args.w.now o q) c.loop-p.invariant.2 c.record_at-r.ensures
          ∙ records-more c.args.o places_of c.args.w.now c.loop-p.p)
          (c.loop-p.invariant.3 then c.write_record-next.ensures.written),
    )

pub returns : goal.returns
returns c =
    let places_of : List Place = places_in c.args.places.now in
    let e : c.loop-p.p ≡ 256 = omega (arith, c.loop-p-test.false) in record { written = written_as (ap (record_texts c.args.w.now c.args.o places_of) e) c.loop-p.invariant.3; next_bound = (omega (arith, e, c.loop-p.invariant.1), c.loop-p.invariant.2 ∙ ap (record_start c.args.o places_of) e) }
