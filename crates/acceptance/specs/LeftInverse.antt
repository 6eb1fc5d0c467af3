-- A right inverse of a symmetric matrix is a left inverse. Assumes nothing.
use Rattle.std.specs.Prelude.{ℕ, ◌*◌, ◌<◌, ◌≤◌, ◌≡◌, [], ◌∷◌, ℤ, pos, nat_abs, ◌-ℤ◌, ◌*ℤ◌}
use Rattle.std.proofs.Common.{sym, ap, ◌∙◌, arith}
use Rattle.std.proofs.Math.Nat.{le_of_mul-le-mul_left}
use Rattle.std.proofs.Math.IntN.{*ℤ_comm}
use Rattle.integers.specs.Laws.{*ℤ_distl_, -ℤ-zero-eq, -ℤ-self}
use Rattle.integers.specs.Solvers.{ring, shapes}
use Rattle.integers.specs.Bounds.{abs-*, abs_zero}
use Rattle.integers.specs.Sums.{sum, sum-ext, sum-*l, sum-δ, δ, δ_sym, mat_assoc}

-- a positive factor is taken off both sides
pub cancel : (d : ℕ) (a b : ℤ) → 0 < d → pos d *ℤ a ≡ pos d *ℤ b → a ≡ b
cancel d a b p e = -ℤ-zero-eq a b (abs_zero (a -ℤ b) (le_of_mul-le-mul_left {k = d} none p))
  where
    none : d * nat_abs (a -ℤ b) ≤ d * 0
    none =
        let z : pos d *ℤ (a -ℤ b) ≡ pos 0 = *ℤ_distl_ (pos d) a b ∙ ap (λ (y : ℤ). y -ℤ pos d *ℤ b) e ∙ -ℤ-self (pos d *ℤ b) in
        omega (arith, abs-* (pos d) (a -ℤ b), ap nat_abs z)

module _ (n : ℕ) (N Z : ℕ → ℕ → ℤ) (d : ℕ) (p : 0 < d)
    (symmetric : (i j : ℕ) → N i j ≡ N j i)
    (right : (i j : ℕ) → i < n → j < n → sum n (λ k. N i k *ℤ Z k j) ≡ pos d *ℤ δ i j) where
  -- the transpose of Z is a left inverse
  transposed : (i j : ℕ) → i < n → j < n → sum n (λ k. Z k i *ℤ N k j) ≡ pos d *ℤ δ i j
  transposed i j hi hj =
      sum-ext n (λ k l. *ℤ_comm (Z k i) (N k j) ∙ ap (λ (y : ℤ). y *ℤ Z k i) (symmetric k j))
      ∙ right j i hj hi
      ∙ ap (λ (y : ℤ). pos d *ℤ y) (δ_sym j i)

  -- so Z is symmetric
  inverse_symmetric : (i j : ℕ) → i < n → j < n → Z i j ≡ Z j i
  inverse_symmetric i j hi hj =
      cancel d (Z i j) (Z j i) p
      (sym
      (sum-ext n (λ m l. ap (λ (y : ℤ). y *ℤ Z m j) (transposed i m hi l) ∙ ring (pos d ∷ δ i m ∷ Z m j ∷ []) (search shapes) tt)
      ∙ sum-*l n (pos d) (λ m. δ i m *ℤ Z m j)
      ∙ ap (λ (y : ℤ). pos d *ℤ y) (sum-δ n i (λ m. Z m j) hi))
      ∙ sym (mat_assoc n n (λ i k. Z k i) N (λ m. Z m j) i)
      ∙ sum-ext n (λ k l. ap (λ (y : ℤ). Z k i *ℤ y) (right k j l hj ∙ ap (λ (y : ℤ). pos d *ℤ y) (δ_sym k j)) ∙ ring (Z k i ∷ pos d ∷ δ j k ∷ []) (search shapes) tt)
      ∙ sum-*l n (pos d) (λ k. δ j k *ℤ Z k i)
      ∙ ap (λ (y : ℤ). pos d *ℤ y) (sum-δ n j (λ k. Z k i) hj))

  pub left_inverse : (i j : ℕ) → i < n → j < n → sum n (λ k. Z i k *ℤ N k j) ≡ pos d *ℤ δ i j
  left_inverse i j hi hj = sum-ext n (λ k l. ap (λ (y : ℤ). y *ℤ N k j) (inverse_symmetric i k hi l)) ∙ transposed i j hi hj
