-- The sheet as it is pasted part by part, and its length. Assumes nothing.
use Prim.Native.Nat.{ℕ, zero, suc, ◌+◌, ◌*◌, ◌≤◌}
use Rattle.std.specs.Prelude.{◌≡◌, List, [], ◌∷◌, ◌++◌, cond, eqb, ℤ}
use Rattle.std.proofs.Math.Path.{refl, ap}
use Rattle.std.proofs.Common.{sym, ◌∙◌, subst}
use native.Mathlib.Omega.{arith}
use Rattle.std.proofs.Math.ListN.{length, drop, length-append}
use Rattle.std.proofs.Math.IntN.{pos}
use Rattle.integers.specs.Sums.{sum_n}
use Rattle.network.specs.Stations.{unknown_count}
use Rattle.network.specs.Records.{record_at, is_empty}
use Rattle.network.specs.RecordLaws.{by_observations}
use Rattle.network.specs.declared.Station.{Station}
use Rattle.network.specs.declared.Network.{Network}
use Rattle.network.specs.declared.Place.{Place}
use Rattle.network.specs.declared.Record.{Record}
use Rattle.residuals.specs.Residuals.{record_count}
use Rattle.sheet.specs.Sheet.{station_line_words, station_lines_words, line_words, record_line_words, record_lines_words, global_words, sheet_words, line_length, room}
use Rattle.lists.specs.Pasted.{pasted, pasted_then, pasted_front}

-- ════ lengths
station-length : (stations : List Station) (x m : List ℤ) (s : ℕ) → length (station_line_words stations x m s) ≡ 7
unfolding station_line_words
station-length stations x m s = refl

record_length_lem : (stations : List Station) (x m : List ℤ) (p : ℕ) (r : Record) → length (record_line_words stations x m p r) ≡ line_length r
unfolding record_line_words line_words line_length is_empty
record_length_lem stations x m p r = by_observations r (λ n. length (line_words stations x m n p r) ≡ cond (eqb n 0) 0 (1 + 2 * n)) refl refl refl

module _ (stations : List Station) (x m : List ℤ) where
  pub stations_long : (k : ℕ) → length (station_lines_words stations x m k) ≡ 7 * k
  unfolding station_lines_words
  stations_long zero = omega arith
  stations_long (suc k) =
      omega (arith, length-append (station_lines_words stations x m k) (station_line_words stations x m k), stations_long k, station-length stations x m k)

  pub records_long : (places : List Place) (k : ℕ) → length (record_lines_words stations x m places k) ≡ sum_n k (λ p. line_length (record_at places p))
  unfolding record_lines_words sum_n
  records_long places zero = refl
  records_long places (suc k) =
      omega (
        arith,
        length-append (record_lines_words stations x m places k) (record_line_words stations x m k (record_at places k)),
        records_long places k,
        record_length_lem stations x m k (record_at places k),
      )

-- ════ four parts, one after the other
module _ (H S R G : List ℤ) where
  pub parts-length : length (H ++ S ++ R ++ G) ≡ length H + length S + length R + length G
  parts-length = omega (arith, length-append (H ++ S ++ R) G, length-append (H ++ S) R, length-append H S)

  pub parts-written : (l a b c d : List ℤ) (at next : ℕ)
      → a ≡ pasted l 0 H → b ≡ pasted a (length H) S → at ≡ length H + length S → c ≡ pasted b at R → next ≡ at + length R → d ≡ pasted c next G
      → length (H ++ S ++ R ++ G) ≤ length l → d ≡ (H ++ S ++ R ++ G) ++ drop (length (H ++ S ++ R ++ G)) l
  parts-written l a b c d at next ea eb eat ec en ed h =
      let zero-first : 0 + length H ≡ length H = omega arith in
      let p : b ≡ pasted l 0 (H ++ S) = eb ∙ (λ k. pasted (ea k) (sym zero-first k) S) ∙ pasted_then l 0 H S in
      let i : at ≡ 0 + length (H ++ S) = omega (arith, length-append H S) in
      let q : c ≡ pasted l 0 (H ++ S ++ R) = ec ∙ (λ k. pasted (p k) (i k) R) ∙ pasted_then l 0 (H ++ S) R in
      let j : next ≡ 0 + length (H ++ S ++ R) = omega (arith, length-append H S, length-append (H ++ S) R) in
      let r : d ≡ pasted l 0 (H ++ S ++ R ++ G) = ed ∙ (λ k. pasted (q k) (j k) G) ∙ pasted_then l 0 (H ++ S ++ R) G in
      r ∙ pasted_front l (H ++ S ++ R ++ G) h

global_long : (stations : List Station) (places : List Place) (x : List ℤ) → length (global_words stations places x) ≡ 3
unfolding global_words
global_long stations places x = refl

module _ (net : Network) (places : List Place) (x m : List ℤ) where
  -- the sheet takes its room
  pub sheet_length : length (sheet_words net places x m) ≡ room net places
  unfolding sheet_words room
  sheet_length =
      parts-length (pos (record_count places) ∷ pos (unknown_count net.stations) ∷ []) (station_lines_words net.stations x m net.count) (record_lines_words net.stations x m places 256) (global_words net.stations places x)
      ∙ rw (stations_long net.stations x m net.count, records_long net.stations x m places 256, global_long net.stations places x) (omega arith)

  pub sheet_written : (l a b c d : List ℤ) (at next : ℕ)
      → a ≡ pasted l 0 (pos (record_count places) ∷ pos (unknown_count net.stations) ∷ [])
      → b ≡ pasted a 2 (station_lines_words net.stations x m net.count)
      → at ≡ 2 + 7 * net.count
      → c ≡ pasted b at (record_lines_words net.stations x m places 256)
      → next ≡ at + sum_n 256 (λ p. line_length (record_at places p))
      → d ≡ pasted c next (global_words net.stations places x)
      → room net places ≤ length l → d ≡ sheet_words net places x m ++ drop (room net places) l
  unfolding sheet_words
  sheet_written l a b c d at next ea eb eat ec en ed h =
      let n : length (sheet_words net places x m) ≡ room net places = sheet_length in
      parts-written (pos (record_count places) ∷ pos (unknown_count net.stations) ∷ []) (station_lines_words net.stations x m net.count) (record_lines_words net.stations x m places 256) (global_words net.stations places x)
      l a b c d at next ea eb (eat ∙ ap (λ (k : ℕ). 2 + k) (sym (stations_long net.stations x m net.count))) ec
      (en ∙ ap (λ (k : ℕ). at + k) (sym (records_long net.stations x m places 256))) ed (subst (λ (k : ℕ). k ≤ length l) (sym n) h)
      ∙ ap (λ (k : ℕ). sheet_words net places x m ++ drop k l) n
