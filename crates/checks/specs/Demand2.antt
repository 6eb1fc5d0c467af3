-- Demand 2, the statement alone (specs/Demand2Holds.antt proves it): a solution is accepted exactly when it passes the listed tests on the book as it is now; then every correction is within
-- one unit of the exact least squares answer; with all that document 01 promises of it in "Accepting a solution" and "What a sheet says". For every sound book, every x, every M and every
-- lent sheet. Assumes nothing.
--   checked, sheet_after                     specs/Checks.antt: what the contracts of `check` and `check_sheet` promise, the answer and the lent words afterwards
--   answer_number, answer_unknown             acceptance, specs/Judge.antt: the number of an answer, and the unknown of 11
--   lengths_fit to refinement_small           acceptance, specs/Tests.antt: tests 1 and 3 to 7 on n, N, u, x, M
--   EachTied, FirstWithoutChain             chains, specs/Chains.antt: test 2, and the first unknown without a chain
--   Solves, RoundedAnswer, RoundedInverse   acceptance, specs/Follows.antt: Ny = db with d > 0; the exact answer, and S times the exact inverse, rounded to nearest
--   Solution                                acceptance, specs/Exact.antt: whole y and d > 0 with Ny = db
--   InverseWeights, exact_residual_variance   specs/InverseWeights.antt, specs/ExactVariance.antt: P⁻¹ of a record; the diagonal of P⁻¹ − A N⁻¹ Aᵀ
--   sheet_words, room                        sheet, specs/Sheet.antt: the sheet's words, coordinates, variances, residuals, verdicts, T, D
use Rattle.std.specs.Prelude.{ℕ, zero, suc, ◌+◌, ◌*◌, ◌^◌, ◌<◌, ◌≤◌, ◌≡◌, Bool, true, ◌↔◌, List, ◌++◌, length, drop, ℤ, pos, nat_abs, ◌-ℤ◌, ◌*ℤ◌, ◌≤ℤ◌}
use Rattle.integers.specs.Sums.{δ}
use Rattle.integers.specs.Inverses.{S, largest}
use Rattle.network.specs.Units.{place_count}
use Rattle.network.specs.Stations.{unknown, unknown_count, coordinate}
use Rattle.network.specs.Records.{record_at, acts}
use Rattle.normals.specs.Formulas.{entry_n, entry_u}
use Rattle.chains.specs.Chains.{EachTied, FirstWithoutChain}
use Rattle.acceptance.specs.Tests.{at, by_rows, lengths_fit, corrections_small, inverse_small, defect_small, residual_small, refinement_small}
use Rattle.acceptance.specs.Judge.{answer_number, answer_unknown, Answer}
use Rattle.acceptance.specs.Follows.{Solves, RoundedAnswer, RoundedInverse}
use Rattle.acceptance.specs.Exact.{Solution}
use Rattle.book.specs.declared.Book.{Book}
use Rattle.book.specs.Book.{sound}
use Rattle.residuals.specs.Residuals.{adjusted, variance, D, residual_variance}
use Rattle.sheet.specs.Sheet.{sheet_words, room}
use Rattle.checks.specs.Checks.{checked, has_room, sheet_after}
use Rattle.checks.specs.InverseWeights.{InverseWeights}
use Rattle.checks.specs.ExactVariance.{exact_residual_variance}

-- ════ "on the book as it is now": n, N and u of its stations and records, worked out afresh, and M by rows of n
abbrev pub n : Book → ℕ
n b = unknown_count b.network.stations

abbrev pub N : Book → ℕ → ℕ → ℤ
N b = entry_n b.network.stations b.places

abbrev pub u : Book → ℕ → ℤ
u b = entry_u b.network.stations b.places

abbrev pub M : Book → List ℤ → ℕ → ℕ → ℤ
M b m = by_rows (n b) m

-- ════ "Accepted exactly when all hold": test k + 1 of the list, for k below 7; `fits`: the sheet, where one is lent, has room
unfoldable pub Test : Book → List ℤ → List ℤ → Bool → ℕ → Type 0
-- 1. "lengths are n and n·n, and the sheet, where one is lent, has room"
Test b x m fits zero = lengths_fit (n b) x m fits ≡ true
-- 2. "for every component, each station unknown in it is joined, by a chain of records acting in it, to a station held in it", or (document 02, request 5) to "a station with a position record"
Test b x m fits (suc zero) = EachTied b.network b.places
-- 3. "|x| ≤ 100,000 throughout"
Test b x m fits (suc (suc zero)) = corrections_small x ≡ true
-- 4. "|M| ≤ 2^34 throughout"
Test b x m fits (suc (suc (suc zero))) = inverse_small m ≡ true
-- 5. "for each row, the sizes of (S·I − MN) add up to at most 2^26"
Test b x m fits (suc (suc (suc (suc zero)))) = defect_small (n b) (N b) (M b m) ≡ true
-- 6. "|r| ≤ 2^23 throughout"
Test b x m fits (suc (suc (suc (suc (suc zero))))) = residual_small (n b) (N b) (u b) (at x) ≡ true
-- 7. "|Mr| ≤ 15·2^26 throughout"
Test b x m fits (suc (suc (suc (suc (suc (suc k)))))) = refinement_small (n b) (N b) (M b m) (u b) (at x) ≡ true

-- the first k tests hold
abbrev pub FirstHold : Book → List ℤ → List ℤ → Bool → ℕ → Type 0
FirstHold b x m fits k = (j : ℕ) → j < k → Test b x m fits j

-- ════ "What follows from acceptance"
pub record Promises (b : Book) (x m : List ℤ) : Type 0 where
  -- "for all whole y and d > 0 with Ny = du, |y − d·x| ≤ d in each place", and there are such y and d
  pub corrections : (y : ℕ → ℤ) (d : ℤ) → Solves (n b) (N b) (u b) y d → (i : ℕ) → i < n b → pos (nat_abs (y i -ℤ d *ℤ at x i)) ≤ℤ d
  pub answer : Solution (n b) (N b) (u b)
  -- they are one answer: any two are equal as fractions
  pub one : (p q : Solution (n b) (N b) (u b)) (i : ℕ) → i < n b → q.d *ℤ p.y i ≡ p.d *ℤ q.y i
  -- "For all whole z and d > 0 with Nz = d times unit column j, 16·|d·M_ij − S·z_i| ≤ S times the largest |z|", and there are such z and d for each column
  pub columns : (z : ℕ → ℤ) (d : ℤ) (j : ℕ) → j < n b → Solves (n b) (N b) (λ k. δ k j) z d
      → (i : ℕ) → i < n b → 16 * nat_abs (d *ℤ M b m i j -ℤ S *ℤ z i) ≤ 2 ^ 30 * largest (n b) (λ k. nat_abs (z k))
  pub inverse : (j : ℕ) → j < n b → Solution (n b) (N b) (λ k. δ k j)
  -- held components do not move, and have the variance 0
  pub held : (q : ℕ) → unknown b.network.stations q ≡ 0 → (adjusted b.network.stations x q ≡ coordinate b.network.stations q) × (variance b.network.stations m q ≡ pos 0)
  -- there are no fewer observations than unknowns: D is not negative
  pub freedom : pos 0 ≤ℤ D b.network.stations b.places

-- ════ an answer to x and M, by its number and its unknown
pub record Demand (b : Book) (x m : List ℤ) (fits : Bool) (number unknown : ℕ) : Type 0 where
  -- accepted exactly when the seven tests hold
  pub accepted : (number ≡ 0) ↔ FirstHold b x m fits 7
  -- "10..16 | check | test 1, 2, 3, 4, 5, 6, 7 fails, in that order": 10 + k exactly when test k + 1 is the first that fails
  pub refused : (k : ℕ) → k < 7 → (number ≡ 10 + k) ↔ (FirstHold b x m fits k × (Test b x m fits k → ⊥))
  -- "for 11 also the first unknown without a chain"
  pub untied : number ≡ 11 → FirstWithoutChain b.network b.places unknown
  pub otherwise : (number ≡ 11 → ⊥) → unknown ≡ 0
  pub promises : number ≡ 0 → Promises b x m
  -- "if x is the exact answer, and M is S times the exact inverse, both rounded to nearest, and tests 1 to 4 hold, then 5 to 7 hold"
  pub complete : RoundedAnswer (n b) (N b) (u b) (at x) → RoundedInverse (n b) (N b) (M b m) → FirstHold b x m fits 4 → FirstHold b x m fits 7
  -- "where M is S times the exact inverse, rounded, q is less than 3 from S times the exact residual variance": at each place, in each component in which its record acts
  pub variances : (g : RoundedInverse (n b) (N b) (M b m)) (p : ℕ) → p < place_count → (Q : ℕ → ℕ → ℤ) (d : ℕ) → InverseWeights (record_at b.places p) Q d
      → (a : ℕ) → a < 3 → acts a (record_at b.places p) ≡ true
      → nat_abs (pos d *ℤ pos g.divisor *ℤ residual_variance b.network.stations m (record_at b.places p) a
      -ℤ S *ℤ exact_residual_variance b.network.stations (record_at b.places p) Q d g.Z g.divisor a) < 3 * (d * g.divisor)

-- ════ the lent words `before`, and as the call leaves them
pub record SheetDemand (b : Book) (x m before after : List ℤ) (number : ℕ) : Type 0 where
  -- an accepted pair becomes a sheet; "Words beyond stay"
  pub written : number ≡ 0 → after ≡ sheet_words b.network b.places x m ++ drop (room b.network b.places) before
  -- "5 words, 7 per station, 7 per baseline, 3 per height difference"; a position "fills the sheet as a baseline does"
  pub long : length (sheet_words b.network b.places x m) ≡ room b.network b.places
  -- "A refusal … changes neither book, history nor sheet"
  pub kept : (number ≡ 0 → ⊥) → after ≡ before

-- ════ the demand: of the answer, with and without a sheet (`fits` is true where none is lent), and of the lent sheet
abbrev pub DemandOf : Book → List ℤ → List ℤ → Bool → Answer → Type 0
DemandOf b x m fits a = Demand b x m fits (answer_number a) (answer_unknown a)

abbrev pub Demand2 : Type 0
Demand2 =
    (b : Book) → sound b ≡ true → (x m : List ℤ)
    → ((fits : Bool) → DemandOf b x m fits (checked b x m fits))
    × ((sheet : List ℤ) → SheetDemand b x m sheet (sheet_after b x m sheet) (answer_number (checked b x m (has_room b sheet))))
