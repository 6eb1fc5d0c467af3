-- The loop has stored the lines of the places passed (`Put`), over the tables of components; at the end they are the sheet's (`records_in`). Assumes nothing.
use native.Mathlib.Omega.{arith}
use Prim.Native.Nat.{ℕ, ◌+◌, ◌≤◌, ◌<◌}
use mathlib.Core.Path.{◌≡◌, refl, sym, ap, ◌∙◌, subst}
use mathlib.Core.List.{List}
use lib.ListN.{length}
use lib.IntN.{ℤ}
use Rattle.lists.specs.Pasted.{pasted}
use Rattle.network.specs.Records.{record_at, observations}
use Rattle.network.specs.Places.{places_in}
use Rattle.network.specs.declared.Place.{Place}
use Rattle.network.specs.declared.Record.{Record}
use Rattle.residuals.specs.Components.{Closes, residuals_in}
use Rattle.residuals.specs.Ranges.{some_unknowns, lookup, sound-at, closes_at}
use Rattle.residuals.specs.Weights.{record_quotients}
use Rattle.sheet.specs.Sheet.{line_length}
use Rattle.sheet.specs.Totals.{residuals_within}
use Rattle.sheet.specs.Lines.{line_of, record_line_words_in, record_length_lem, record_words-none, record_words-more, Put, put_none, put_more}
use Rattle.sheet.proofs.RecordLines.{record_words-room, records_in}
use Rattle.sheet.proofs.sheet.put_records.Goals as goal

pub tables_of-t-requires : goal.tables_of-t-requires
tables_of-t-requires c = (some_unknowns c.requires.1.moved, c.requires.1.moved.corrections)

pub invariant_of-covariances : goal.invariant_of-covariances
invariant_of-covariances c = record { looked_up = rw (c.tables_of-t.ensures.number, c.tables_of-t.ensures.unknown, c.tables_of-t.ensures.n) (lookup c.requires.1.moved c.args.m.now c.requires.2) }

pub loop-p-init : goal.loop-p-init
loop-p-init c = (
  refl,
  subst (λ (w : List ℤ). Put c.args.sheet.now c.args.from w c.args.sheet.now c.args.from)
      (sym (record_words-none c.tables_of-t.result.coordinate c.tables_of-t.result.correction c.tables_of-t.result.number c.tables_of-t.result.unknown c.args.m.now c.tables_of-t.result.n (places_in c.args.places.now)))
      (put_none c.args.sheet.now c.args.from),
)

pub record_at-r-requires : goal.record_at-r-requires
record_at-r-requires c = (c.requires.0, c.loop-p-test.true)

pub residuals_of-v-requires : goal.residuals_of-v-requires
residuals_of-v-requires c =
    let places_of : List Place = places_in c.args.places.now in
    let now-at : Record = record_at places_of c.loop-p.p in
    let closes : c.loop-p.p < 256 → Closes c.tables_of-t.result.coordinate c.tables_of-t.result.correction now-at = λ h. rw (c.tables_of-t.ensures.coordinate, c.tables_of-t.ensures.correction) (closes_at c.requires.1 c.loop-p.p h) in
    rw c.record_at-r.ensures (closes c.loop-p-test.true)

pub verdicts_of-w-requires : goal.verdicts_of-w-requires
verdicts_of-w-requires c =
    let places_of : List Place = places_in c.args.places.now in
    let now-at : Record = record_at places_of c.loop-p.p in
    let closes : c.loop-p.p < 256 → Closes c.tables_of-t.result.coordinate c.tables_of-t.result.correction now-at = λ h. rw (c.tables_of-t.ensures.coordinate, c.tables_of-t.ensures.correction) (closes_at c.requires.1 c.loop-p.p h) in
    let h = c.loop-p-test.true in let g = sound-at c.requires.1 c.loop-p.p h in
    rw (c.residuals_of-v.ensures, c.record_at-r.ensures) (
      g.from,
      g.to,
      record_quotients c.args.net now-at (c.requires.1.records c.loop-p.p h),
      residuals_within (closes h),
    )

pub put_record-at-requires : goal.put_record-at-requires
put_record-at-requires c =
    let places_of : List Place = places_in c.args.places.now in
    let h = c.loop-p-test.true in (
      subst (λ (r : Record). c.loop-p.at + line_length r ≤ length c.loop-p.sheet) (sym c.record_at-r.ensures)
          (record_words-room c.tables_of-t.result.coordinate c.tables_of-t.result.correction c.tables_of-t.result.number c.tables_of-t.result.unknown c.args.m.now c.tables_of-t.result.n places_of c.args.from c.loop-p.at (length c.loop-p.sheet) c.loop-p.p (rw c.loop-p.invariant.0 c.requires.3) c.loop-p.invariant.1.next h),
      h,
    )

pub loop-p-preserved : goal.loop-p-preserved
unfolding record_line_words_in
loop-p-preserved c =
    let places_of : List Place = places_in c.args.places.now in
    let now-at : Record = record_at places_of c.loop-p.p in
    let line_at : Record → List ℤ = λ r. record_line_words_in c.tables_of-t.result.number c.tables_of-t.result.unknown c.args.m.now c.tables_of-t.result.n c.loop-p.p r (residuals_in c.tables_of-t.result.coordinate c.tables_of-t.result.correction r) in
    let line : line_of (observations c.record_at-r.result) c.loop-p.p c.residuals_of-v.result c.verdicts_of-w.result ≡ line_at now-at = let v = c.residuals_of-v in let a = c.record_at-r in rw (c.verdicts_of-w.ensures, v.ensures, a.ensures) in
    let q = c.put_record-at in (
      q.auto.sheet ∙ c.loop-p.invariant.0,
      subst (λ (l : List ℤ). Put c.args.sheet.now c.args.from l q.new.sheet q.result) (sym (record_words-more c.tables_of-t.result.coordinate c.tables_of-t.result.correction c.tables_of-t.result.number c.tables_of-t.result.unknown c.args.m.now c.tables_of-t.result.n places_of c.loop-p.p))
          (put_more c.loop-p.invariant.1 (line_at now-at) q.new.sheet q.result (q.ensures.1 ∙ ap (pasted c.loop-p.sheet c.loop-p.at) line)
          (q.ensures.0 ∙ ap (λ (r : Record). c.loop-p.at + line_length r) c.record_at-r.ensures ∙ ap (λ (k : ℕ). c.loop-p.at + k)
          (sym (record_length_lem c.tables_of-t.result.number c.tables_of-t.result.unknown c.args.m.now c.tables_of-t.result.n c.loop-p.p now-at (residuals_in c.tables_of-t.result.coordinate c.tables_of-t.result.correction now-at))))),
    )

pub returns : goal.returns
returns c =
    let places_of : List Place = places_in c.args.places.now in
    let e : c.loop-p.p ≡ 256 = omega arith in
    c.loop-p.invariant.1.holds
    ∙ ap (pasted c.args.sheet.now c.args.from)
    (rw (c.tables_of-t.ensures.coordinate, c.tables_of-t.ensures.correction, c.tables_of-t.ensures.number, c.tables_of-t.ensures.unknown, c.tables_of-t.ensures.n, e)
    (records_in c.args.net.stations c.args.x.now c.args.m.now places_of (λ p h. let g = sound-at c.requires.1 p h in (g.from, g.to))))
