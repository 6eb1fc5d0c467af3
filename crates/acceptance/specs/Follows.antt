-- What follows from the tests, over any N and u: the correction promise, the column promise, and that rounding to nearest passes tests 5 to 7. Assumes nothing.
use Rattle.std.specs.Prelude.{ℕ, ◌*◌, ◌^◌, ◌<◌, ◌≤◌, ◌≡◌, true, ℤ, pos, ◌-ℤ◌, ◌*ℤ◌, ◌≤ℤ◌, ◌<ℤ◌}
use Rattle.std.proofs.Common.{subst}
use borrow.Author.Tests.{leb-true, le-leb}
use Rattle.std.proofs.Math.IntN.{nat_abs}
use Rattle.integers.specs.Sums.{sum, sum_n, sum_n-swap, δ}
use Rattle.integers.specs.Inverses.{S, defect, largest, ≤-largest, approx, approx-column, rounded_passes_5, rounded_passes_6, rounded_passes_7}
use Rattle.lists.specs.All.{all_at, all_by}
use Rattle.acceptance.specs.Tests.{refinement, defect_small, residual_small, refinement_small}
use Rattle.acceptance.specs.LeftInverse.{left_inverse}

-- ════ the hypotheses in document 01's words
-- "for all whole y and d > 0 with Ny = db"
pub record Solves (n : ℕ) (N : ℕ → ℕ → ℤ) (b y : ℕ → ℤ) (d : ℤ) : Type 0 where
  pub positive : pos 0 <ℤ d
  pub solves : (i : ℕ) → i < n → sum n (λ j. N i j *ℤ y j) ≡ d *ℤ b i

-- "x is the exact answer, … rounded to nearest": the answer is y over d
pub record RoundedAnswer (n : ℕ) (N : ℕ → ℕ → ℤ) (u x : ℕ → ℤ) : Type 0 where
  pub y : ℕ → ℤ
  pub d : ℕ
  pub positive : 0 < d
  pub solves : (i : ℕ) → i < n → sum n (λ j. N i j *ℤ y j) ≡ pos d *ℤ u i
  pub nearest : (i : ℕ) → i < n → 2 * nat_abs (y i -ℤ pos d *ℤ x i) ≤ d

-- "M is S times the exact inverse, … rounded to nearest": the inverse is Z over a divisor
pub record RoundedInverse (n : ℕ) (N M : ℕ → ℕ → ℤ) : Type 0 where
  pub Z : ℕ → ℕ → ℤ
  pub divisor : ℕ
  pub positive : 0 < divisor
  pub inverse : (i j : ℕ) → i < n → j < n → sum n (λ k. N i k *ℤ Z k j) ≡ pos divisor *ℤ δ i j
  pub nearest : (i j : ℕ) → i < n → j < n → 2 * nat_abs (S *ℤ Z i j -ℤ pos divisor *ℤ M i j) ≤ divisor

-- what completeness asks of N: the records' rules give it
pub record Moderate (n : ℕ) (N : ℕ → ℕ → ℤ) : Type 0 where
  pub symmetric : (i j : ℕ) → N i j ≡ N j i
  pub rows : (i : ℕ) → sum_n n (λ j. nat_abs (N i j)) ≤ 2 ^ 24
  pub whole : sum_n n (λ i. sum_n n (λ j. nat_abs (N i j))) ≤ 2 ^ 27

-- ════ what tests 5 and 7 bound, row by row
pub row_sums : (n : ℕ) (N M : ℕ → ℕ → ℤ) → defect_small n N M ≡ true → (i : ℕ) → i < n → sum_n n (λ j. nat_abs (defect n N M i j)) ≤ 2 ^ 26
unfolding defect_small
row_sums n N M e i h = leb-true _ _ (all_at n _ i e h)

module _ (n : ℕ) (N M : ℕ → ℕ → ℤ) (u x : ℕ → ℤ) where
  refinements : refinement_small n N M u x ≡ true → (i : ℕ) → i < n → nat_abs (refinement n N M u x i) ≤ 15 * 2 ^ 26
  unfolding refinement_small
  refinements e i h = leb-true _ _ (all_at n _ i e h)

  -- "for all whole y and d > 0 with Ny = du, |y − d·x| ≤ d in each place"
  pub correction_bound : defect_small n N M ≡ true → refinement_small n N M u x ≡ true
      → (y : ℕ → ℤ) (d : ℤ) → Solves n N u y d → (i : ℕ) → i < n → pos (nat_abs (y i -ℤ d *ℤ x i)) ≤ℤ d
  correction_bound e f y d s = approx n M N x u y d s.positive s.solves (row_sums n N M e) (refinements f)

  -- "For all whole z and d > 0 with Nz = d times unit column j, 16·|d·M_ij − S·z_i| ≤ S times the largest |z|"
  pub column_bound : defect_small n N M ≡ true
      → (z : ℕ → ℤ) (d : ℤ) (j : ℕ) → j < n → Solves n N (λ k. δ k j) z d → (i : ℕ) → i < n → 16 * nat_abs (d *ℤ M i j -ℤ S *ℤ z i) ≤ 2 ^ 30 * largest n (λ k. nat_abs (z k))
  column_bound e z d j lj s i li = approx-column n M N z d j lj s.solves (largest n (λ k. nat_abs (z k))) (≤-largest n (λ k. nat_abs (z k))) i li (row_sums n N M e i li)

  -- "if x is the exact answer, and M is S times the exact inverse, both rounded to nearest, … then 5 to 7 hold"
  pub rounded_defect : Moderate n N → RoundedInverse n N M → defect_small n N M ≡ true
  unfolding defect_small
  rounded_defect g r =
      all_by n _ (λ i l. le-leb _ _
      (rounded_passes_5 n M N r.Z r.divisor r.positive i
      (λ j h. left_inverse n N r.Z r.divisor r.positive g.symmetric r.inverse i j l h)
      (λ k h. r.nearest i k l h)
      (subst (λ (m : ℕ). m ≤ 2 ^ 27) (sum_n-swap n n (λ i j. nat_abs (N i j))) g.whole)))

  pub rounded_residual : Moderate n N → RoundedAnswer n N u x → residual_small n N u x ≡ true
  unfolding residual_small
  rounded_residual g r = all_by n _ (λ i l. le-leb _ _ (rounded_passes_6 n N x u r.y r.d r.positive i (r.solves i l) r.nearest (g.rows i)))

  pub rounded_refinement : defect_small n N M ≡ true → RoundedAnswer n N u x → refinement_small n N M u x ≡ true
  unfolding refinement_small
  rounded_refinement e r = all_by n _ (λ i l. le-leb _ _ (rounded_passes_7 n M N x u r.y r.d r.positive i l r.solves r.nearest (row_sums n N M e i l)))
