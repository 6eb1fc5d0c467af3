-- The loop has stored the lines of the stations passed (`Put`), over the tables of components; at the end they are the sheet's (`stations_in`). Assumes nothing.
use native.Mathlib.Omega.{arith}
use Prim.Native.Nat.{ℕ, ◌+◌, ◌*◌, ◌<◌}
use mathlib.Core.Path.{◌≡◌, refl, sym, ap, ap₂, ◌∙◌, subst}
use mathlib.Core.List.{List}
use lib.ListN.{length}
use lib.IntN.{ℤ}
use Rattle.lists.specs.Pasted.{pasted}
use Rattle.network.specs.RuleLaws.{sound-stations, network_few}
use Rattle.residuals.specs.Ranges.{some_unknowns, corrections_within, lookup}
use Rattle.sheet.specs.Lines.{seven_words, station_line_words_in, station-length, station_lines_words_in, station_words-none, station_words-more, station_words-length, stations_in, Put, put_none, put_more}
use Rattle.sheet.proofs.sheet.put_stations.Goals as goal

pub tables_of-t-requires : goal.tables_of-t-requires
tables_of-t-requires c = (some_unknowns c.requires.0, c.requires.0.corrections)

pub invariant_of-covariances : goal.invariant_of-covariances
invariant_of-covariances c = record { looked_up = rw (c.tables_of-t.ensures.number, c.tables_of-t.ensures.unknown, c.tables_of-t.ensures.n) (lookup c.requires.0 c.args.m.now c.requires.1) }

pub loop-s-init : goal.loop-s-init
loop-s-init c = (
  refl,
  subst (λ (w : List ℤ). Put c.args.sheet.now c.args.from w c.args.sheet.now c.args.from)
      (sym (station_words-none c.tables_of-t.result.coordinate c.tables_of-t.result.correction c.tables_of-t.result.number c.tables_of-t.result.unknown c.args.m.now c.tables_of-t.result.n))
      (put_none c.args.sheet.now c.args.from),
)

pub adjusted_station-x-requires : goal.adjusted_station-x-requires
adjusted_station-x-requires c =
    let few : c.loop-s.s < 32 = omega (arith, c.loop-s-test.true, network_few c.args.net c.requires.0.network) in (
      few,
      rw c.tables_of-t.ensures.coordinate (sound-stations c.args.net c.requires.0.network).provisional,
      rw c.tables_of-t.ensures.correction (corrections_within c.requires.0),
    )

pub variances_of-e-requires : goal.variances_of-e-requires
variances_of-e-requires c =
    let few : c.loop-s.s < 32 = omega (arith, c.loop-s-test.true, network_few c.args.net c.requires.0.network) in
    few

pub seven_words-line-requires : goal.seven_words-line-requires
seven_words-line-requires c =
    let few : c.loop-s.s < 32 = omega (arith, c.loop-s-test.true, network_few c.args.net c.requires.0.network) in
    omega (arith, few)

pub put_line-at-requires : goal.put_line-at-requires
unfolding station_line_words_in
put_line-at-requires c =
    let linesAt : ℕ → List ℤ = station_lines_words_in c.tables_of-t.result.coordinate c.tables_of-t.result.correction c.tables_of-t.result.number c.tables_of-t.result.unknown c.args.m.now c.tables_of-t.result.n in
    let long : length (linesAt c.loop-s.s) ≡ 7 * c.loop-s.s = station_words-length c.tables_of-t.result.coordinate c.tables_of-t.result.correction c.tables_of-t.result.number c.tables_of-t.result.unknown c.args.m.now c.tables_of-t.result.n c.loop-s.s in
    let line_at : ℕ → List ℤ = station_line_words_in c.tables_of-t.result.coordinate c.tables_of-t.result.correction c.tables_of-t.result.number c.tables_of-t.result.unknown c.args.m.now c.tables_of-t.result.n in
    let line : c.seven_words-line.result ≡ line_at c.loop-s.s = c.seven_words-line.ensures ∙ ap₂ (seven_words c.loop-s.s) c.adjusted_station-x.ensures c.variances_of-e.ensures in
    let line_long : length c.seven_words-line.result ≡ 7 = ap length line ∙ station-length c.tables_of-t.result.coordinate c.tables_of-t.result.correction c.tables_of-t.result.number c.tables_of-t.result.unknown c.args.m.now c.tables_of-t.result.n c.loop-s.s in
    omega (arith, line_long, long, c.loop-s.invariant.1.next, c.loop-s.invariant.0, c.requires.2, c.loop-s-test.true)

pub loop-s-preserved : goal.loop-s-preserved
unfolding station_line_words_in
loop-s-preserved c =
    let line_at : ℕ → List ℤ = station_line_words_in c.tables_of-t.result.coordinate c.tables_of-t.result.correction c.tables_of-t.result.number c.tables_of-t.result.unknown c.args.m.now c.tables_of-t.result.n in
    let line : c.seven_words-line.result ≡ line_at c.loop-s.s = c.seven_words-line.ensures ∙ ap₂ (seven_words c.loop-s.s) c.adjusted_station-x.ensures c.variances_of-e.ensures in
    let q = c.put_line-at in (
      q.auto.sheet ∙ c.loop-s.invariant.0,
      subst (λ (w : List ℤ). Put c.args.sheet.now c.args.from w q.new.sheet q.result) (sym (station_words-more c.tables_of-t.result.coordinate c.tables_of-t.result.correction c.tables_of-t.result.number c.tables_of-t.result.unknown c.args.m.now c.tables_of-t.result.n c.loop-s.s))
          (put_more c.loop-s.invariant.1 (line_at c.loop-s.s) q.new.sheet q.result
          (q.ensures.1 ∙ ap (pasted c.loop-s.sheet c.loop-s.at) line) (q.ensures.0 ∙ ap (λ (l : List ℤ). c.loop-s.at + length l) line)),
    )

pub returns : goal.returns
returns c =
    let e : c.loop-s.s ≡ c.args.net.count = omega arith in
    c.loop-s.invariant.1.holds
    ∙ ap (pasted c.args.sheet.now c.args.from)
    (rw (c.tables_of-t.ensures.coordinate, c.tables_of-t.ensures.correction, c.tables_of-t.ensures.number, c.tables_of-t.ensures.unknown, c.tables_of-t.ensures.n, e) (stations_in c.args.net.stations c.args.x.now c.args.m.now c.args.net.count (network_few c.args.net c.requires.0.network)))
