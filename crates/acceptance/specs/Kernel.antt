-- Test 5 alone makes N regular: where Nz = 0 in its n rows, z is 0. Assumes nothing.
-- The column promise at d = 0 says 16·S·|z_i| ≤ S times the largest |z|.
use Rattle.std.specs.Prelude.{ℕ, ◌*◌, ◌/◌, ◌^◌, ◌<◌, ◌≤◌, ◌≡◌, true, [], ◌∷◌, ℤ, pos, neg_ℤ, nat_abs, ◌-ℤ◌, ◌*ℤ◌}
use Rattle.std.proofs.Common.{sym, ap, ◌∙◌, arith}
use Rattle.std.proofs.Math.IntN.{zero-*ℤ}
use Rattle.integers.specs.Solvers.{ring, shapes}
use Rattle.integers.specs.Bounds.{abs-*, abs_neg, abs_zero}
use Rattle.integers.specs.Sums.{sum, δ}
use Rattle.integers.specs.Inverses.{S, approx-column, largest, ≤-largest, largest-≤}
use Rattle.acceptance.specs.Tests.{defect_small}
use Rattle.acceptance.specs.Follows.{row_sums}

pub kernel : (n : ℕ) (N M : ℕ → ℕ → ℤ) → defect_small n N M ≡ true
    → (z : ℕ → ℤ) → ((i : ℕ) → i < n → sum n (λ j. N i j *ℤ z j) ≡ pos 0) → (i : ℕ) → i < n → z i ≡ pos 0
kernel n N M e z h i l = abs_zero (z i) (omega (arith, largest-≤ n size (largest n size / 16) each, ≤-largest n size i l))
  where
    size : ℕ → ℕ
    size j = nat_abs (z j)

    column : (i : ℕ) → i < n → 16 * nat_abs (pos 0 *ℤ M i i -ℤ S *ℤ z i) ≤ 2 ^ 30 * largest n size
    column i l = approx-column n M N z (pos 0) i l (λ k q. h k q ∙ sym (zero-*ℤ (δ k i))) (largest n size) (≤-largest n size) i l (row_sums n N M e i l)

    each : (i : ℕ) → i < n → size i ≤ largest n size / 16
    each i l =
        let minus : pos 0 *ℤ M i i -ℤ S *ℤ z i ≡ neg_ℤ (S *ℤ z i) = ring (M i i ∷ z i ∷ []) (search shapes) tt in
        omega (arith, column i l, ap nat_abs minus, abs_neg (S *ℤ z i), abs-* S (z i))
