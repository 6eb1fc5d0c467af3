-- Document 01, "Accepting a solution": "Lent: corrections x (n whole numbers) and an n×n matrix M, whole numbers in 64-bit slices. S = 2^30. …
-- r = u − Nx. Accepted exactly when all hold", tests 1 and 3 to 7 in its order; test 2 is that of the crate chains. Indices count from 0. Assumes nothing.
use Rattle.std.specs.Prelude.{ℕ, ◌+◌, ◌*◌, ◌^◌, Bool, ◌&&◌, List, eqb, leb, length, get_or, ℤ, pos, nat_abs, ◌-ℤ◌, ◌*ℤ◌}
use Rattle.integers.specs.Sums.{sum, sum_n}
use Rattle.integers.specs.Inverses.{defect}
use Rattle.lists.specs.All.{all_below}

-- ════ lists as vectors, and as matrices by rows: N has rows of 48, M rows of n
abbrev pub at : List ℤ → ℕ → ℤ
at l i = get_or l i (pos 0)

abbrev pub by_rows : ℕ → List ℤ → ℕ → ℕ → ℤ
by_rows stride l i j = at l (i * stride + j)

-- ════ the vectors that the tests bound; the matrix S·I − MN is `defect`
-- "r = u − Nx", the residual of the normal equations
abbrev pub normal_residual : ℕ → (ℕ → ℕ → ℤ) → (ℕ → ℤ) → (ℕ → ℤ) → ℕ → ℤ
normal_residual n N u x i = u i -ℤ sum n (λ j. N i j *ℤ x j)

-- Mr: S times how far a further step of the solution would move x
abbrev pub refinement : ℕ → (ℕ → ℕ → ℤ) → (ℕ → ℕ → ℤ) → (ℕ → ℤ) → (ℕ → ℤ) → ℕ → ℤ
refinement n N M u x i = sum n (λ k. M i k *ℤ normal_residual n N u x k)

-- ════ the tests
-- 1: "lengths are n and n·n, and the sheet, where one is lent, has room"; whether it has is the caller's to say
unfoldable pub lengths_fit : ℕ → List ℤ → List ℤ → Bool → Bool
lengths_fit n x m room = eqb (length x) n && eqb (length m) (n * n) && room

-- 3: "|x| ≤ 100,000 throughout"
unfoldable pub corrections_small : List ℤ → Bool
corrections_small x = all_below (length x) (λ i. leb (nat_abs (at x i)) 100000)

-- 4: "|M| ≤ 2^34 throughout"
unfoldable pub inverse_small : List ℤ → Bool
inverse_small m = all_below (length m) (λ k. leb (nat_abs (at m k)) (2 ^ 34))

-- 5: "for each row, the sizes of (S·I − MN) add up to at most 2^26"
unfoldable pub defect_small : ℕ → (ℕ → ℕ → ℤ) → (ℕ → ℕ → ℤ) → Bool
defect_small n N M = all_below n (λ i. leb (sum_n n (λ j. nat_abs (defect n N M i j))) (2 ^ 26))

-- 6: "|r| ≤ 2^23 throughout"
unfoldable pub residual_small : ℕ → (ℕ → ℕ → ℤ) → (ℕ → ℤ) → (ℕ → ℤ) → Bool
residual_small n N u x = all_below n (λ i. leb (nat_abs (normal_residual n N u x i)) (2 ^ 23))

-- 7: "|Mr| ≤ 15·2^26 throughout"
unfoldable pub refinement_small : ℕ → (ℕ → ℕ → ℤ) → (ℕ → ℕ → ℤ) → (ℕ → ℤ) → (ℕ → ℤ) → Bool
refinement_small n N M u x = all_below n (λ i. leb (nat_abs (refinement n N M u x i)) (15 * 2 ^ 26))
