-- The lines of a sheet over the tables of components, as the code has them; each is the line that Sheet says. Assumes nothing.
use Prim.Native.Nat.{ℕ, zero, suc, ◌+◌, ◌*◌, ◌<◌, ◌≤◌}
use Rattle.std.specs.Prelude.{◌≡◌, cond, eqb, get_or, length, ℤ, pos}
use Rattle.std.proofs.Math.Path.{refl, sym, ap}
use Rattle.std.proofs.Common.{ap₂, ◌∙◌, lit<, length-append}
use mathlib.Core.List.{List, [], ◌∷◌, ◌++◌}
use native.Mathlib.Omega.{arith}
use Rattle.integers.specs.Sums.{sum_n}
use Rattle.lists.specs.Pasted.{pasted, pasted-none, pasted_then}
use Rattle.words.specs.Concat.{concat_below, concat_below-none, concat_below-+1, length-concat_below, concat_below-ext}
use Rattle.network.specs.Stations.{unknown_count, coordinates, unknown_table, index_table}
use Rattle.network.specs.Records.{acts, from_of, to_of, record_at, observations, acts_of, is_empty}
use Rattle.network.specs.RecordLaws.{by_observations}
use Rattle.network.specs.declared.Station.{Station}
use Rattle.network.specs.declared.Place.{Place}
use Rattle.network.specs.declared.Record.{Record}
use Rattle.residuals.specs.Residuals.{residual, residual_variance}
use Rattle.sheet.specs.Sheet.{station_line_words, station_lines_words, line_words, record_line_words, record_lines_words, verdict_at, line_length}
use Rattle.residuals.specs.Components.{corrections_of, adjusted_station_in, adjusted_in_lem, variances_in, covariance_in_lem, difference_in_lem, residuals_in, residual_in_lem}
use Rattle.residuals.specs.Observations.{verdict_in, verdicts_over, verdicts_in}

-- ════ lines one after the other
pub length-lines : (k : ℕ) (f : ℕ → List ℤ) → length (concat_below k f) ≡ sum_n k (λ i. length (f i))
unfolding concat_below sum_n
length-lines zero f = refl
length-lines (suc k) f = length-append (concat_below k f) (f k) ∙ ap (λ (n : ℕ). n + length (f k)) (length-lines k f)

-- a sheet on which w was stored from index `from` on, and the next index is `at`
pub record Put (l : List ℤ) (from : ℕ) (w sheet : List ℤ) (at : ℕ) : Type 0 where
  pub holds : sheet ≡ pasted l from w
  pub next : at ≡ from + length w

pub put_none : (l : List ℤ) (from : ℕ) → Put l from [] l from
put_none l from = record { holds = sym (pasted-none l from); next = omega arith }

pub put_more : {l : List ℤ} {from : ℕ} {w sheet : List ℤ} {at : ℕ} → Put l from w sheet at
    → (v now : List ℤ) (then : ℕ) → now ≡ pasted sheet at v → then ≡ at + length v → Put l from (w ++ v) now then
put_more {l} {from} {w} {sheet} {at} p v now then e q =
    record {
      holds = e ∙ ap₂ (λ (s : List ℤ) (i : ℕ). pasted s i v) p.holds p.next ∙ pasted_then l from w v;
      next = let n = p.next in omega (arith, length-append w v);
    }

-- ════ a line by its words
-- a number from 1, and two values in each of E, N, U
unfoldable pub seven_words : ℕ → List ℤ → List ℤ → List ℤ
seven_words k v w =
    pos (k + 1)
    ∷ get_or v 0 (pos 0) ∷ get_or v 1 (pos 0) ∷ get_or v 2 (pos 0)
    ∷ get_or w 0 (pos 0) ∷ get_or w 1 (pos 0) ∷ get_or w 2 (pos 0)
    ∷ []

-- a number from 1, and two values in U
unfoldable pub three_words : ℕ → List ℤ → List ℤ → List ℤ
three_words k v w = pos (k + 1) ∷ get_or v 2 (pos 0) ∷ get_or w 2 (pos 0) ∷ []

-- the line of a record that observes so many components
unfoldable pub line_of : ℕ → ℕ → List ℤ → List ℤ → List ℤ
line_of zero p v w = []
line_of (suc zero) p v w = three_words p v w
line_of (suc (suc n)) p v w = seven_words p v w

pub line_length_lem : (r : Record) (p : ℕ) (v w : List ℤ) → length (line_of (observations r) p v w) ≡ line_length r
unfolding line_of seven_words three_words line_length is_empty
line_length_lem r p v w = by_observations r (λ n. length (line_of n p v w) ≡ cond (eqb n 0) 0 (1 + 2 * n)) refl refl refl

-- a record that observes more than one component observes three
pub three-observed : (r : Record) → (observations r ≡ 0 → ⊥) → (observations r ≡ 1 → ⊥) → observations r ≡ 3
three-observed r = by_observations r (λ n. (n ≡ 0 → ⊥) → (n ≡ 1 → ⊥) → n ≡ 3) (λ f g. absurd (f refl)) (λ f g. absurd (g refl)) (λ f g. refl)

-- ════ the line of a station
module _ (coordinate corrections : List ℤ) (numbers : List ℕ) (unknowns m : List ℤ) (n : ℕ) where
  unfoldable pub station_line_words_in : ℕ → List ℤ
  station_line_words_in s = seven_words s (adjusted_station_in coordinate corrections s) (variances_in numbers unknowns m n s)

  pub station-length : (s : ℕ) → length (station_line_words_in s) ≡ 7
  unfolding station_line_words_in seven_words
  station-length s = refl

-- ════ the line of a record, with its residuals v
module _ (numbers : List ℕ) (unknowns m : List ℤ) (n : ℕ) where
  unfoldable pub record_line_words_in : ℕ → Record → List ℤ → List ℤ
  record_line_words_in p r v = line_of (observations r) p v (verdicts_in numbers unknowns m n r v)

  pub record_length_lem : (p : ℕ) (r : Record) (v : List ℤ) → length (record_line_words_in p r v) ≡ line_length r
  unfolding record_line_words_in
  record_length_lem p r v = line_length_lem r p v (verdicts_in numbers unknowns m n r v)

-- ════ the first k lines
module _ (coordinate corrections : List ℤ) (numbers : List ℕ) (unknowns m : List ℤ) (n : ℕ) where
  unfoldable pub station_lines_words_in : ℕ → List ℤ
  station_lines_words_in k = concat_below k (station_line_words_in coordinate corrections numbers unknowns m n)

  unfoldable pub record_line_in : List Place → ℕ → List ℤ
  record_line_in places p = record_line_words_in numbers unknowns m n p (record_at places p) (residuals_in coordinate corrections (record_at places p))

  unfoldable pub record_lines_words_in : List Place → ℕ → List ℤ
  unfolding record_line_in
  record_lines_words_in places k = concat_below k (record_line_in places)

  pub station_words-none : station_lines_words_in 0 ≡ []
  unfolding station_lines_words_in
  station_words-none = concat_below-none (station_line_words_in coordinate corrections numbers unknowns m n)

  pub station_words-more : (k : ℕ) → station_lines_words_in (k + 1) ≡ station_lines_words_in k ++ station_line_words_in coordinate corrections numbers unknowns m n k
  unfolding station_lines_words_in
  station_words-more k = concat_below-+1 k (station_line_words_in coordinate corrections numbers unknowns m n)

  pub station_words-length : (k : ℕ) → length (station_lines_words_in k) ≡ 7 * k
  unfolding station_lines_words_in
  station_words-length k =
      length-concat_below 7 (station_line_words_in coordinate corrections numbers unknowns m n) (station-length coordinate corrections numbers unknowns m n) k ∙ omega arith

  module _ (places : List Place) where
    pub record_words-none : record_lines_words_in places 0 ≡ []
    unfolding record_lines_words_in
    record_words-none = concat_below-none (record_line_in places)

    pub record_words-more : (k : ℕ) → record_lines_words_in places (k + 1)
        ≡ record_lines_words_in places k ++ record_line_words_in numbers unknowns m n k (record_at places k) (residuals_in coordinate corrections (record_at places k))
    unfolding record_lines_words_in record_line_in
    record_words-more k = concat_below-+1 k (record_line_in places)

-- ════ over the tables of a station list they are the sheet's
module _ (stations : List Station) (x m : List ℤ) where
  station_in_lem : (s : ℕ) → s < 32
      → station_line_words_in (coordinates stations) (corrections_of stations x) (index_table stations) (unknown_table stations) m (unknown_count stations) s ≡ station_line_words stations x m s
  unfolding station_line_words_in seven_words adjusted_station_in variances_in station_line_words
  station_in_lem s h =
      let e : s * 3 < 96 = omega arith in let n : s * 3 + 1 < 96 = omega arith in let u : s * 3 + 2 < 96 = omega arith in
      rw (
        adjusted_in_lem stations x (s * 3) e,
        adjusted_in_lem stations x (s * 3 + 1) n,
        adjusted_in_lem stations x (s * 3 + 2) u,
        covariance_in_lem stations m (s * 3) (s * 3) e e,
        covariance_in_lem stations m (s * 3 + 1) (s * 3 + 1) n n,
        covariance_in_lem stations m (s * 3 + 2) (s * 3 + 2) u u,
      )

  verdict_in_lem : (r : Record) → from_of r < 32 → to_of r < 32 → (a : ℕ) → a < 3
      → verdict_in (index_table stations) (unknown_table stations) m (unknown_count stations) r a (residual stations x r a) ≡ verdict_at stations x m r a
  unfolding verdict_in verdict_at residual_variance
  verdict_in_lem r f t a h = rw (difference_in_lem stations m r f t a h)

  pub record_in_lem : (p : ℕ) (r : Record) → from_of r < 32 → to_of r < 32
      → record_line_words_in (index_table stations) (unknown_table stations) m (unknown_count stations) p r (residuals_in (coordinates stations) (corrections_of stations x) r)
      ≡ record_line_words stations x m p r
  unfolding record_line_words_in line_of seven_words three_words verdicts_in verdicts_over record_line_words line_words acts acts_of
  record_in_lem p r f t = go (observations r) refl
    where
      go : (n : ℕ) → observations r ≡ n
          → line_of n p (residuals_in (coordinates stations) (corrections_of stations x) r) (verdicts_over (index_table stations) (unknown_table stations) m (unknown_count stations) n r (residuals_in (coordinates stations) (corrections_of stations x) r))
          ≡ line_words stations x m n p r
      go zero o = refl
      go (suc zero) o = rw (residual_in_lem stations x r f t 2 (lit< tt) (rw o refl), verdict_in_lem r f t 2 (lit< tt))
      go (suc (suc n)) o =
          rw (
            residual_in_lem stations x r f t 0 (lit< tt) (rw o refl),
            residual_in_lem stations x r f t 1 (lit< tt) (rw o refl),
            residual_in_lem stations x r f t 2 (lit< tt) (rw o refl),
            verdict_in_lem r f t 0 (lit< tt),
            verdict_in_lem r f t 1 (lit< tt),
            verdict_in_lem r f t 2 (lit< tt),
          )

  pub station-lines : (k : ℕ) → station_lines_words stations x m k ≡ concat_below k (station_line_words stations x m)
  unfolding station_lines_words concat_below
  station-lines zero = refl
  station-lines (suc k) = ap (λ (l : List ℤ). l ++ station_line_words stations x m k) (station-lines k)

  pub record_lines : (places : List Place) (k : ℕ) → record_lines_words stations x m places k ≡ concat_below k (λ p. record_line_words stations x m p (record_at places p))
  unfolding record_lines_words concat_below
  record_lines places zero = refl
  record_lines places (suc k) = ap (λ (l : List ℤ). l ++ record_line_words stations x m k (record_at places k)) (record_lines places k)

  pub stations_in : (k : ℕ) → k ≤ 32
      → station_lines_words_in (coordinates stations) (corrections_of stations x) (index_table stations) (unknown_table stations) m (unknown_count stations) k ≡ station_lines_words stations x m k
  unfolding station_lines_words_in
  stations_in k h = concat_below-ext k _ (station_line_words stations x m) (λ s l. station_in_lem s (omega arith)) ∙ sym (station-lines k)
