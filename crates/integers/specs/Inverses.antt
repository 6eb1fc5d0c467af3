-- Approximate inverses: what the tests of a proposed solution give (x, and M that is nearly S times the inverse of N, S = 2 ^ 30), and when a rounded solution passes them.
-- All is over functions of the index, n of them: for lists l of a row length n take `λ i. get_or l i (pos 0)` and `λ i j. get_or l (i * n + j) (pos 0)`.
--     approx             test 5 in every row, test 7 in every row:  |y − d x| ≤ d in each place, for y and d > 0 with N y = d u
--     approx-column      test 5 in row i:  16 |d M i j − S z i| ≤ S Z, for z and d with N z = d times unit column j, and Z a bound of every |z|
--     rounded_passes_5   row i of M is S times the exact inverse, rounded to nearest, and N is not too large: test 5
--     rounded_passes_6   x is the exact answer, rounded to nearest, and row i of N is not too large: test 6
--     rounded_passes_7   the same x, and test 5: test 7
use Rattle.std.specs.Prelude.{◌≡◌, [], ◌∷◌, ℕ, zero, suc, ◌+◌, ◌*◌, ◌^◌, ◌/◌, max, ◌<◌, ◌≤◌, ℤ, pos, nat_abs, ◌+ℤ◌, ◌-ℤ◌, ◌*ℤ◌, ◌≤ℤ◌, ◌<ℤ◌}
use Rattle.std.proofs.Common.{sym, ap, ap₂, ◌∙◌, subst, le_refl, le_trans, mul-le-mul, arith}
use Rattle.std.proofs.Math.Nat.{le-max_left, le-max_right, max-le, le_of_mul-le-mul_left}
use Rattle.std.proofs.Math.Decide.{ℕ_discrete}
use Rattle.integers.specs.Order.{pos_mono, pos-abs, <ℤ→≤ℤ}
use Rattle.integers.specs.Solvers.{ring, shapes}
use Rattle.integers.specs.Bounds.{abs-+, abs--, abs-*, abs-sub_comm}
use Rattle.integers.specs.Sums.{sum, sum_n, sum-ext, sum--, sum-*l, sum-δ, δ, δ_sym, abs_dot, mat_assoc, sum_n_mono, sum_n-*l}

-- "S = 2^30" (document 01, "Accepting a solution")
abbrev pub S : ℤ
S = pos (2 ^ 30)

-- entry (i, j) of S·I − MN, which test 5 bounds
abbrev pub defect : ℕ → (ℕ → ℕ → ℤ) → (ℕ → ℕ → ℤ) → ℕ → ℕ → ℤ
defect n N M i j = S *ℤ δ i j -ℤ sum n (λ k. M i k *ℤ N k j)

module _ (n : ℕ) (M N : ℕ → ℕ → ℤ) where
  -- (S I − M N) v = S v − M (N v)
  defect-mul : (v : ℕ → ℤ) (i : ℕ) → i < n
      → sum n (λ j. defect n N M i j *ℤ v j) ≡ S *ℤ v i -ℤ sum n (λ k. M i k *ℤ sum n (λ j. N k j *ℤ v j))
  defect-mul v i l =
      sum-ext n (λ j q. ring (δ i j ∷ sum n (λ k. M i k *ℤ N k j) ∷ v j ∷ []) (search shapes) tt)
      ∙ sum-- n (λ j. S *ℤ (δ i j *ℤ v j)) (λ j. sum n (λ k. M i k *ℤ N k j) *ℤ v j)
      ∙ ap₂ ◌-ℤ◌ (sum-*l n S (λ j. δ i j *ℤ v j) ∙ ap (λ (z : ℤ). S *ℤ z) (sum-δ n i v l)) (sym (mat_assoc n n M N v i))

-- x against a y with N y = d u
module _ (n : ℕ) (M N : ℕ → ℕ → ℤ) (x u y : ℕ → ℤ) (d : ℤ) where
  -- e = y − d x
  abbrev error : ℕ → ℤ
  error j = y j -ℤ d *ℤ x j

  -- r = u − N x
  abbrev rest : ℕ → ℤ
  rest k = u k -ℤ sum n (λ j. N k j *ℤ x j)

  -- N e = d r
  N_error : (k : ℕ) → sum n (λ j. N k j *ℤ y j) ≡ d *ℤ u k → sum n (λ j. N k j *ℤ error j) ≡ d *ℤ rest k
  N_error k h =
      sum-ext n (λ j l. ring (N k j ∷ y j ∷ d ∷ x j ∷ []) (search shapes) tt)
      ∙ sum-- n (λ j. N k j *ℤ y j) (λ j. d *ℤ (N k j *ℤ x j))
      ∙ ap₂ ◌-ℤ◌ h (sum-*l n d (λ j. N k j *ℤ x j))
      ∙ ring (d ∷ u k ∷ sum n (λ j. N k j *ℤ x j) ∷ []) (search shapes) tt

  -- d M r = S e − (S I − M N) e
  M-rest : (i : ℕ) → i < n → ((k : ℕ) → k < n → sum n (λ j. N k j *ℤ y j) ≡ d *ℤ u k)
      → d *ℤ sum n (λ k. M i k *ℤ rest k) ≡ S *ℤ error i -ℤ sum n (λ j. defect n N M i j *ℤ error j)
  M-rest i l h =
      sym (sum-*l n d (λ k. M i k *ℤ rest k))
      ∙ sum-ext n (λ k q. ring (d ∷ M i k ∷ rest k ∷ []) (search shapes) tt ∙ ap (λ (z : ℤ). M i k *ℤ z) (sym (N_error k (h k q))))
      ∙ ring (sum n (λ k. M i k *ℤ sum n (λ j. N k j *ℤ error j)) ∷ error i ∷ []) (search shapes) tt
      ∙ ap (λ (z : ℤ). S *ℤ error i -ℤ z) (sym (defect-mul n M N error i l))

-- ════ |y − d x| ≤ d
-- the largest of f 0, …, f (n − 1); 0 where n = 0
unfoldable pub largest : ℕ → (ℕ → ℕ) → ℕ
largest zero f = 0
largest (suc n) f = max (largest n f) (f n)

pub ≤-largest : (n : ℕ) (f : ℕ → ℕ) (i : ℕ) → i < n → f i ≤ largest n f
unfolding largest
≤-largest zero f i h = absurd (omega arith)
≤-largest (suc n) f i h = go (≤-largest n f i) (ℕ_discrete i n)
  where
    go : (i < n → f i ≤ largest n f) → Dec (i ≡ n) → f i ≤ max (largest n f) (f n)
    go ih (yes e) = subst (λ (k : ℕ). f k ≤ max (largest n f) (f n)) (sym e) (le-max_right (largest n f) (f n))
    go ih (no e) = le_trans (ih (omega arith)) (le-max_left (largest n f) (f n))

pub largest-≤ : (n : ℕ) (f : ℕ → ℕ) (B : ℕ) → ((i : ℕ) → i < n → f i ≤ B) → largest n f ≤ B
unfolding largest
largest-≤ zero f B h = omega arith
largest-≤ (suc n) f B h = max-le (largest-≤ n f B (λ i l. h i (omega arith))) (h n (omega arith))

module _ (n : ℕ) (M N : ℕ → ℕ → ℤ) (x u y : ℕ → ℤ) (d : ℤ) where
  abbrev err : ℕ → ℤ
  err = error n M N x u y d

  abbrev res : ℕ → ℤ
  res = rest n M N x u y d

  -- at each i, where E bounds every |e j|
  row : (E i : ℕ) → i < n → ((k : ℕ) → k < n → sum n (λ j. N k j *ℤ y j) ≡ d *ℤ u k)
      → ((j : ℕ) → j < n → nat_abs (err j) ≤ E)
      → sum_n n (λ j. nat_abs (defect n N M i j)) ≤ 2 ^ 26 → nat_abs (sum n (λ k. M i k *ℤ res k)) ≤ 15 * 2 ^ 26
      → 2 ^ 30 * nat_abs (err i) ≤ 2 ^ 26 * E + nat_abs d * (15 * 2 ^ 26)
  row E i l h b o t =
      omega (
        arith,
        abs-* S (err i),
        ap nat_abs split,
        abs-+ De (d *ℤ Mr),
        abs_dot n (defect n N M i) err E b,
        mul-le-mul o (le_refl E),
        abs-* d Mr,
        mul-le-mul (le_refl (nat_abs d)) t,
      )
    where
      De : ℤ
      De = sum n (λ j. defect n N M i j *ℤ err j)

      Mr : ℤ
      Mr = sum n (λ k. M i k *ℤ res k)

      split : S *ℤ err i ≡ De +ℤ d *ℤ Mr
      split = ring (err i ∷ De ∷ []) (search shapes) tt ∙ ap (λ (z : ℤ). De +ℤ z) (sym (M-rest n M N x u y d i l h))

  within : ((k : ℕ) → k < n → sum n (λ j. N k j *ℤ y j) ≡ d *ℤ u k)
      → ((i : ℕ) → i < n → sum_n n (λ j. nat_abs (defect n N M i j)) ≤ 2 ^ 26)
      → ((i : ℕ) → i < n → nat_abs (sum n (λ k. M i k *ℤ res k)) ≤ 15 * 2 ^ 26)
      → (i : ℕ) → i < n → nat_abs (err i) ≤ nat_abs d
  within h o t i l = omega (arith, largest-≤ n size_e ((E + 15 * nat_abs d) / 16) each, ≤-largest n size_e i l)
    where
      size_e : ℕ → ℕ
      size_e j = nat_abs (err j)

      E : ℕ
      E = largest n size_e

      each : (k : ℕ) → k < n → size_e k ≤ (E + 15 * nat_abs d) / 16
      each k q = omega (arith, row E k q h (≤-largest n size_e) (o k q) (t k q))

-- For y and d > 0 with N y = d u, tests 5 and 7 give |y − d x| ≤ d in each place.
pub approx : (n : ℕ) (M N : ℕ → ℕ → ℤ) (x u y : ℕ → ℤ) (d : ℤ) → pos 0 <ℤ d
    → ((i : ℕ) → i < n → sum n (λ j. N i j *ℤ y j) ≡ d *ℤ u i)
    → ((i : ℕ) → i < n → sum_n n (λ j. nat_abs (defect n N M i j)) ≤ 2 ^ 26)
    → ((i : ℕ) → i < n → nat_abs (sum n (λ k. M i k *ℤ (u k -ℤ sum n (λ j. N k j *ℤ x j)))) ≤ 15 * 2 ^ 26)
    → (i : ℕ) → i < n → pos (nat_abs (y i -ℤ d *ℤ x i)) ≤ℤ d
approx n M N x u y d p h o r i l = rw (pos-abs (<ℤ→≤ℤ p)) at (pos_mono (within n M N x u y d h o r i l))

-- ════ the columns of M
-- For z and d with N z = d times unit column j, test 5 at row i gives 16 |d M i j − S z i| ≤ S times any bound Z of every |z|.
pub approx-column : (n : ℕ) (M N : ℕ → ℕ → ℤ) (z : ℕ → ℤ) (d : ℤ) (j : ℕ) → j < n
    → ((k : ℕ) → k < n → sum n (λ m. N k m *ℤ z m) ≡ d *ℤ δ k j)
    → (Z : ℕ) → ((k : ℕ) → k < n → nat_abs (z k) ≤ Z)
    → (i : ℕ) → i < n → sum_n n (λ m. nat_abs (defect n N M i m)) ≤ 2 ^ 26
    → 16 * nat_abs (d *ℤ M i j -ℤ S *ℤ z i) ≤ 2 ^ 30 * Z
approx-column n M N z d j lj h Z b i l o =
    omega (arith, abs-sub_comm (d *ℤ M i j) (S *ℤ z i), ap nat_abs eq, abs_dot n (defect n N M i) z Z b, mul-le-mul o (le_refl Z))
  where
    Mz : sum n (λ k. M i k *ℤ sum n (λ m. N k m *ℤ z m)) ≡ d *ℤ M i j
    Mz =
        sum-ext n (λ k q. ap (λ (y : ℤ). M i k *ℤ y) (h k q ∙ ap (λ (y : ℤ). d *ℤ y) (δ_sym k j)) ∙ ring (M i k ∷ d ∷ δ j k ∷ []) (search shapes) tt)
        ∙ sum-*l n d (λ k. δ j k *ℤ M i k)
        ∙ ap (λ (y : ℤ). d *ℤ y) (sum-δ n j (λ k. M i k) lj)

    eq : S *ℤ z i -ℤ d *ℤ M i j ≡ sum n (λ m. defect n N M i m *ℤ z m)
    eq = sym (defect-mul n M N z i l ∙ ap (λ (y : ℤ). S *ℤ z i -ℤ y) Mz)

-- ════ rounding to nearest implies tests 5 to 7
-- each |e k| at most D / 2
half_dot : (n : ℕ) (a e : ℕ → ℤ) (D : ℕ) → ((k : ℕ) → k < n → 2 * nat_abs (e k) ≤ D) → 2 * nat_abs (sum n (λ k. a k *ℤ e k)) ≤ D * sum_n n (λ k. nat_abs (a k))
half_dot n a e D h =
    omega (arith, abs_dot n a e (D / 2) (λ k l. half (h k l)), mul-le-mul (le_refl (sum_n n (λ k. nat_abs (a k)))) (twice D))
  where
    half : {m : ℕ} → 2 * m ≤ D → m ≤ D / 2
    half {m} q = omega arith

    twice : (D : ℕ) → 2 * (D / 2) ≤ D
    twice D = omega arith

-- The exact inverse is Z over D: row i of Z N = D I. Row i of M is S Z over D, rounded to nearest. Where the sizes of N's entries add up to at most 2 ^ 27, row i passes test 5.
pub rounded_passes_5 : (n : ℕ) (M N Z : ℕ → ℕ → ℤ) (D : ℕ) → 0 < D → (i : ℕ)
    → ((j : ℕ) → j < n → sum n (λ k. Z i k *ℤ N k j) ≡ pos D *ℤ δ i j)
    → ((k : ℕ) → k < n → 2 * nat_abs (S *ℤ Z i k -ℤ pos D *ℤ M i k) ≤ D)
    → sum_n n (λ j. sum_n n (λ k. nat_abs (N k j))) ≤ 2 ^ 27
    → sum_n n (λ j. nat_abs (defect n N M i j)) ≤ 2 ^ 26
rounded_passes_5 n M N Z D p i h e b = small (le_of_mul-le-mul_left all p)
  where
    -- D (S I − M N) = (S Z − D M) N
    entry : (j : ℕ) → sum n (λ k. Z i k *ℤ N k j) ≡ pos D *ℤ δ i j
        → pos D *ℤ defect n N M i j ≡ sum n (λ k. N k j *ℤ (S *ℤ Z i k -ℤ pos D *ℤ M i k))
    entry j h =
        sym
        (sum-ext n (λ k l. ring (N k j ∷ Z i k ∷ pos D ∷ M i k ∷ []) (search shapes depth 8) tt)
        ∙ sum-- n (λ k. S *ℤ (Z i k *ℤ N k j)) (λ k. pos D *ℤ (M i k *ℤ N k j))
        ∙ ap₂ ◌-ℤ◌ (sum-*l n S (λ k. Z i k *ℤ N k j) ∙ ap (λ (z : ℤ). S *ℤ z) h) (sum-*l n (pos D) (λ k. M i k *ℤ N k j))
        ∙ ring (pos D ∷ δ i j ∷ sum n (λ k. M i k *ℤ N k j) ∷ []) (search shapes) tt)

    o : ℕ → ℕ
    o j = nat_abs (defect n N M i j)

    c : ℕ → ℕ
    c j = sum_n n (λ k. nat_abs (N k j))

    one : (j : ℕ) → j < n → D * (2 * o j) ≤ D * c j
    one j l = omega (arith, abs-* (pos D) (defect n N M i j), ap nat_abs (entry j (h j l)), half_dot n (λ k. N k j) (λ k. S *ℤ Z i k -ℤ pos D *ℤ M i k) D e)

    all : D * (2 * sum_n n o) ≤ D * sum_n n c
    all = omega (arith, sum_n_mono n one, sum_n-*l n D (λ j. 2 * o j), sum_n-*l n 2 o, sum_n-*l n D c, ap (λ (m : ℕ). D * m) (sum_n-*l n 2 o))

    small : 2 * sum_n n o ≤ sum_n n c → sum_n n o ≤ 2 ^ 26
    small q = omega arith

-- The exact answer is y over d: N y = d u. x is y over d, rounded to nearest. Where the sizes of row i of N add up to at most 2 ^ 24, row i passes test 6.
pub rounded_passes_6 : (n : ℕ) (N : ℕ → ℕ → ℤ) (x u y : ℕ → ℤ) (d : ℕ) → 0 < d → (i : ℕ)
    → sum n (λ j. N i j *ℤ y j) ≡ pos d *ℤ u i
    → ((j : ℕ) → j < n → 2 * nat_abs (y j -ℤ pos d *ℤ x j) ≤ d)
    → sum_n n (λ j. nat_abs (N i j)) ≤ 2 ^ 24
    → nat_abs (u i -ℤ sum n (λ j. N i j *ℤ x j)) ≤ 2 ^ 23
rounded_passes_6 n N x u y d p i h e b = small (le_of_mul-le-mul_left all p)
  where
    r : ℤ
    r = u i -ℤ sum n (λ j. N i j *ℤ x j)

    all : d * (2 * nat_abs r) ≤ d * sum_n n (λ j. nat_abs (N i j))
    all = omega (arith, abs-* (pos d) r, ap nat_abs (N_error n N N x u y (pos d) i h), half_dot n (N i) (λ j. y j -ℤ pos d *ℤ x j) d e)

    small : 2 * nat_abs r ≤ sum_n n (λ j. nat_abs (N i j)) → nat_abs r ≤ 2 ^ 23
    small q = omega arith

-- The same x, where row i of M passes test 5: row i passes test 7.
pub rounded_passes_7 : (n : ℕ) (M N : ℕ → ℕ → ℤ) (x u y : ℕ → ℤ) (d : ℕ) → 0 < d → (i : ℕ) → i < n
    → ((k : ℕ) → k < n → sum n (λ j. N k j *ℤ y j) ≡ pos d *ℤ u k)
    → ((j : ℕ) → j < n → 2 * nat_abs (y j -ℤ pos d *ℤ x j) ≤ d)
    → sum_n n (λ j. nat_abs (defect n N M i j)) ≤ 2 ^ 26
    → nat_abs (sum n (λ k. M i k *ℤ (u k -ℤ sum n (λ j. N k j *ℤ x j)))) ≤ 15 * 2 ^ 26
rounded_passes_7 n M N x u y d p i l h e b = small (le_of_mul-le-mul_left all p)
  where
    v : ℕ → ℤ
    v j = y j -ℤ pos d *ℤ x j

    De : ℤ
    De = sum n (λ j. defect n N M i j *ℤ v j)

    Mr : ℤ
    Mr = sum n (λ k. M i k *ℤ (u k -ℤ sum n (λ j. N k j *ℤ x j)))

    all : d * (2 * nat_abs Mr) ≤ d * (2 ^ 30 + 2 ^ 26)
    all =
        omega (
          arith,
          abs-* (pos d) Mr,
          ap nat_abs (M-rest n M N x u y (pos d) i l h),
          abs-- (S *ℤ v i) De,
          abs-* S (v i),
          e i l,
          half_dot n (defect n N M i) v d e,
          mul-le-mul (le_refl d) b,
        )

    small : 2 * nat_abs Mr ≤ 2 ^ 30 + 2 ^ 26 → nat_abs Mr ≤ 15 * 2 ^ 26
    small q = omega arith
