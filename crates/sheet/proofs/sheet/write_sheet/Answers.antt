-- The four parts are stored one after the other; `sheet_written` joins them into the sheet. Assumes nothing.
use borrow.Author.Rules.{sfits_of}
use native.Mathlib.Omega.{arith}
use Prim.Native.Nat.{ℕ, ◌+◌, ◌*◌}
use mathlib.Core.Path.{◌≡◌, refl, ap, ap₂, ◌∙◌}
use mathlib.Core.List.{List, [], ◌∷◌}
use lib.ListN.{length}
use lib.IntN.{ℤ, pos}
use mir.Syntax.{w64}
use mir.ValLaws.{to_z-of_z}
use Rattle.lists.specs.Pasted.{pasted}
use Rattle.lists.specs.Stored.{stored}
use Rattle.network.specs.StationLaws.{number_small}
use Rattle.network.specs.RuleLaws.{network_few}
use Rattle.network.specs.Places.{places_in}
use Rattle.network.specs.declared.Station.{Station}
use Rattle.network.specs.declared.Place.{Place}
use Rattle.residuals.specs.Residuals.{record_count, T, D}
use Rattle.residuals.specs.Verdicts.{verdict_word, global_verdict}
use Rattle.sheet.specs.declared.totals.Counts.{Counts}
use Rattle.sheet.specs.Sheet.{room, global_words}
use Rattle.sheet.specs.Totals.{word_count, counts_of, FewCounts, counts_few}
use Rattle.sheet.specs.SheetLaws.{sheet_written}
use Rattle.sheet.proofs.sheet.write_sheet.Goals as goal

global : (stations : List Station) (places : List Place) (x : List ℤ) (t d : ℤ) → stored t ≡ T stations places x → stored d ≡ D stations places
    → ◌≡◌ {A = List ℤ} (stored t ∷ stored d ∷ verdict_word (global_verdict (stored t) (stored d)) ∷ []) (global_words stations places x)
unfolding global_words
global stations places x t d e f = rw (e, f)

pub d_of-d-requires : goal.d_of-d-requires
d_of-d-requires c = let g = c.requires.1 in (c.requires.0, record { network = g.moved.network; each = g.records })

pub count_line-first-requires : goal.count_line-first-requires
count_line-first-requires c =
    let few : FewCounts c.counts_of-counts.result = rw c.counts_of-counts.ensures (counts_few (places_in c.args.places.now)) in
    (few.records, rw c.number_of-n.ensures (number_small c.args.net.stations 96))

pub overflow_mul-at : goal.overflow_mul-at
overflow_mul-at c = omega (arith, network_few c.args.net c.requires.1.moved.network)

pub overflow_add-at : goal.overflow_add-at
overflow_add-at c = omega (arith, network_few c.args.net c.requires.1.moved.network)

pub paste-requires : goal.paste-requires
unfolding room
paste-requires c = omega (arith, ap length c.count_line-first.ensures, c.requires.3)

pub put_stations-requires : goal.put_stations-requires
unfolding room
put_stations-requires c = (c.requires.1.moved, c.requires.2, omega (arith, c.requires.3, c.paste.auto.list))

pub put_records-requires : goal.put_records-requires
unfolding room
put_records-requires c = (c.requires.0, c.requires.1, c.requires.2, omega (arith, c.requires.3, c.put_stations.auto.sheet, c.paste.auto.list))

pub overflow_add-at-2 : goal.overflow_add-at-2
overflow_add-at-2 c =
    let few : FewCounts c.counts_of-counts.result = rw c.counts_of-counts.ensures (counts_few (places_in c.args.places.now)) in
    omega (arith, few.words, network_few c.args.net c.requires.1.moved.network)

pub paste-requires-2 : goal.paste-requires-2
unfolding room counts_of
paste-requires-2 c =
    let words : c.counts_of-counts.result.words ≡ word_count (places_in c.args.places.now) = ap (λ (k : Counts). k.words) c.counts_of-counts.ensures in
    omega (arith, ap length c.global_line-last.ensures, c.requires.3, words, c.put_records.auto.sheet, c.put_stations.auto.sheet, c.paste.auto.list)

pub returns : goal.returns
unfolding counts_of
returns c =
    let records : c.counts_of-counts.result.records ≡ record_count (places_in c.args.places.now) = ap (λ (k : Counts). k.records) c.counts_of-counts.ensures in
    let words : c.counts_of-counts.result.words ≡ word_count (places_in c.args.places.now) = ap (λ (k : Counts). k.words) c.counts_of-counts.ensures in
    let at = 2 + 7 * c.args.net.count in
    sheet_written c.args.net (places_in c.args.places.now) c.args.x.now c.args.m.now c.args.sheet.now c.paste.new.list c.put_stations.new.sheet c.put_records.new.sheet c.paste-2.new.list
    at (at + c.counts_of-counts.result.words)
    (c.paste.ensures ∙ ap (pasted c.args.sheet.now 0) (c.count_line-first.ensures ∙ ap₂ (λ (a e : ℕ). pos a ∷ pos e ∷ []) records c.number_of-n.ensures))
    c.put_stations.ensures refl c.put_records.ensures (ap (λ (e : ℕ). at + e) words)
    (c.paste-2.ensures ∙ ap (pasted c.put_records.new.sheet (at + c.counts_of-counts.result.words))
    (c.global_line-last.ensures ∙ global c.args.net.stations (places_in c.args.places.now) c.args.x.now c.t_of-t.result c.d_of-d.result
    (to_z-of_z w64 c.t_of-t.result (sfits_of c.t_of-t.type_inv) ∙ c.t_of-t.ensures) (to_z-of_z w64 c.d_of-d.result (sfits_of c.d_of-d.type_inv) ∙ c.d_of-d.ensures)))
    c.requires.3
