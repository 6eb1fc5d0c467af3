-- The lines of all records: their length, the room that they leave, and that those over the tables of a station list are the sheet's. Assumes nothing.
use Prim.Native.Nat.{ℕ, suc, ◌+◌, ◌<◌, ◌≤◌}
use Rattle.std.specs.Prelude.{◌≡◌, length, ℤ}
use Rattle.std.proofs.Math.Path.{sym}
use Rattle.std.proofs.Common.{◌∙◌}
use mathlib.Core.List.{List}
use native.Mathlib.Omega.{arith}
use Rattle.integers.specs.Sums.{sum_n, sum_n-suc, sum_n-ext, sum_n-first}
use Rattle.words.specs.Concat.{concat_below-ext}
use Rattle.network.specs.Stations.{unknown_count, coordinates, unknown_table, index_table}
use Rattle.network.specs.Records.{from_of, to_of, record_at}
use Rattle.network.specs.declared.Station.{Station}
use Rattle.network.specs.declared.Place.{Place}
use Rattle.residuals.specs.Components.{corrections_of, residuals_in}
use Rattle.sheet.specs.Sheet.{record_line_words, record_lines_words, line_length}
use Rattle.sheet.specs.Lines.{length-lines, record_length_lem, record_line_in, record_lines_words_in, record_in_lem, record_lines}

module _ (coordinate corrections : List ℤ) (numbers : List ℕ) (unknowns m : List ℤ) (n : ℕ) (places : List Place) where
  pub record_words-length : (k : ℕ) → length (record_lines_words_in coordinate corrections numbers unknowns m n places k) ≡ sum_n k (λ p. line_length (record_at places p))
  unfolding record_lines_words_in record_line_in
  record_words-length k =
      length-lines k (record_line_in coordinate corrections numbers unknowns m n places)
      ∙ sum_n-ext k (λ p h. record_length_lem numbers unknowns m n p (record_at places p) (residuals_in coordinate corrections (record_at places p)))

  -- room for all leaves room for the next
  pub record_words-room : (from at long k : ℕ) → from + sum_n 256 (λ p. line_length (record_at places p)) ≤ long → at ≡ from + length (record_lines_words_in coordinate corrections numbers unknowns m n places k) → k < 256
      → at + line_length (record_at places k) ≤ long
  record_words-room from at long k h e l =
      omega (arith, record_words-length k, sum_n-suc k (λ p. line_length (record_at places p)), sum_n-first (suc k) 256 (λ p. line_length (record_at places p)) l)

module _ (stations : List Station) (x m : List ℤ) where
  pub records_in : (places : List Place) → ((p : ℕ) → p < 256 → (from_of (record_at places p) < 32) × (to_of (record_at places p) < 32))
      → record_lines_words_in (coordinates stations) (corrections_of stations x) (index_table stations) (unknown_table stations) m (unknown_count stations) places 256 ≡ record_lines_words stations x m places 256
  unfolding record_lines_words_in record_line_in
  records_in places h =
      concat_below-ext 256 _ (λ p. record_line_words stations x m p (record_at places p)) (λ p l. record_in_lem stations x m p (record_at places p) (h p l).0 (h p l).1) ∙ sym (record_lines stations x m places 256)
