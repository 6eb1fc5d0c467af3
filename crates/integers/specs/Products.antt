-- One law for every i64 loop that adds up products, `s += a[k] * b[k]`.
--     use Rattle.integers.specs.Products.{Terms, turn}
-- Let the loop keep `to_z w64 s ≡ sum k (λ i. a i *ℤ b i)`, where a and b give the factors by index, and say once what is known of them:
--     terms : Terms a b A B n
--     terms = record { left = ..; right = ..; left_fits = lit< tt; right_fits = lit< tt; all_fit = .. }
-- Then `turn terms k<n inv`, at a turn with k<n : k < n and inv the loop's equation, has the needs of the product and of the sum as `.mul` and `.add`, and the equation of
-- the next turn as `.next`.
use Rattle.std.specs.Prelude.{◌≡◌, ℕ, ◌+◌, ◌*◌, ◌^◌, ◌<◌, ◌≤◌, ℤ, nat_abs, ◌+ℤ◌, ◌*ℤ◌}
use Rattle.std.proofs.Common.{sym, ap, ap₂, ◌∙◌, subst, le_trans, mul-le-mul, mul-le-mul_right, arith, SFits, to_z, of_z}
use Rattle.std.specs.Int.{w64}
use Rattle.std.proofs.lemmas.Int.{to_z-of_z}
use Rattle.integers.specs.Bounds.{abs-*, fits}
use Rattle.integers.specs.Sums.{sum, sum-+1, abs-sum-const}

-- the factors of n products: each a k at most A in size, each b k at most B, and all n products together fit
pub record Terms (a b : ℕ → ℤ) (A B n : ℕ) : Type 0 where
  pub left : (k : ℕ) → k < n → nat_abs (a k) ≤ A
  pub right : (k : ℕ) → k < n → nat_abs (b k) ≤ B
  pub left_fits : A < 2 ^ 63
  pub right_fits : B < 2 ^ 63
  pub all_fit : n * (A * B) < 2 ^ 63

-- a number that was stored and read again
abbrev m : ℤ → ℤ
m z = to_z w64 (of_z w64 z)

-- One turn: x holds the sum so far, a and b are the factors read, s is the sum afterwards.
pub record Turn (a b : ℤ) (x : ℕ) (s : ℤ) : Type 0 where
  pub mul : SFits w64 (m a *ℤ m b)
  pub add : SFits w64 (to_z w64 x +ℤ m (m a *ℤ m b))
  pub next : m (to_z w64 x +ℤ m (m a *ℤ m b)) ≡ s

sized : (z : ℤ) {B : ℕ} → nat_abs z ≤ B → B < 2 ^ 63 → SFits w64 z
sized z {B} h l = fits (record { b = B; le = h }) l

back : (z : ℤ) {B : ℕ} → nat_abs z ≤ B → B < 2 ^ 63 → m z ≡ z
back z h l = to_z-of_z w64 z (sized z h l)

module _ {a b : ℕ → ℤ} {A B n : ℕ} (t : Terms a b A B n) where
  product : (k : ℕ) → k < n → nat_abs (a k *ℤ b k) ≤ A * B
  product k h = subst (λ (p : ℕ). p ≤ A * B) (sym (abs-* (a k) (b k))) (mul-le-mul (t.left k h) (t.right k h))

  -- the sum of the first k products fits
  pub sum-size : (k : ℕ) → k ≤ n → nat_abs (sum k (λ i. a i *ℤ b i)) ≤ n * (A * B)
  sum-size k h = le_trans (abs-sum-const k (λ i. a i *ℤ b i) (A * B) (λ i l. product i (omega arith))) (mul-le-mul_right (A * B) h)

  pub sum_fits : (k : ℕ) → k ≤ n → SFits w64 (sum k (λ i. a i *ℤ b i))
  sum_fits k h = sized (sum k (λ i. a i *ℤ b i)) (sum-size k h) t.all_fit

  pub turn : {x k : ℕ} → k < n → to_z w64 x ≡ sum k (λ i. a i *ℤ b i) → Turn (a k) (b k) x (sum (k + 1) (λ i. a i *ℤ b i))
  turn {x} {k} h e =
      record {
        mul = subst (SFits w64) (sym factors) ab;
        add = subst (SFits w64) (sym grown) all;
        next = ap m grown ∙ to_z-of_z w64 (sum (k + 1) (λ i. a i *ℤ b i)) all;
      }
    where
      factors : m (a k) *ℤ m (b k) ≡ a k *ℤ b k
      factors = ap₂ ◌*ℤ◌ (back (a k) (t.left k h) t.left_fits) (back (b k) (t.right k h) t.right_fits)

      one : A * B ≤ n * (A * B)
      one = omega (arith, mul-le-mul_right (A * B) h)

      ab : SFits w64 (a k *ℤ b k)
      ab = sized (a k *ℤ b k) (le_trans (product k h) one) t.all_fit

      all : SFits w64 (sum (k + 1) (λ i. a i *ℤ b i))
      all = sum_fits (k + 1) (omega arith)

      grown : to_z w64 x +ℤ m (m (a k) *ℤ m (b k)) ≡ sum (k + 1) (λ i. a i *ℤ b i)
      grown = ap₂ ◌+ℤ◌ e (ap m factors ∙ to_z-of_z w64 (a k *ℤ b k) ab) ∙ sym (sum-+1 k (λ i. a i *ℤ b i))
