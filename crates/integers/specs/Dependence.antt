-- Linear dependence: more vectors of whole numbers than they have coordinates. `v k i` is coordinate i of vector k. Assumes nothing.
--     dependent          m vectors of n coordinates, n < m: some whole multiples of them, not all 0, add up to 0
--     dependent-within   the same of K coordinates, where those that are not 0 throughout number fewer than m
-- By induction on the number of vectors: a coordinate in which the last one is not 0 is cleared from the others, and left out.
use Rattle.std.specs.Prelude.{◌≡◌, Bool, [], ◌∷◌, ◌⊎◌, ltb, eqb, ℤ, pos, neg_ℤ, nat_abs, ◌+ℤ◌, ◌-ℤ◌, ◌*ℤ◌}
use Rattle.std.proofs.Math.Path.{sym, ap}
use Rattle.std.proofs.Common.{ap₂, ◌∙◌, subst, inl, inr, le_refl, mul-le-mul, lt-ltb, le-ltb, eq-eqb, ne_eqb}
use Rattle.std.proofs.Math.Bool.{cond}
use Prim.Native.Nat.{ℕ, zero, suc, ◌-◌, ◌<◌, ◌≤◌}
use Rattle.std.proofs.Math.Decide.{ℕ_discrete, dec_lt}
use native.Mathlib.Omega.{arith}
use Rattle.std.proofs.Math.IntN.{*ℤ-zero, ℤ_discrete}
use Rattle.integers.specs.Solvers.{ring, shapes}
use Rattle.integers.specs.Bounds.{abs-*, abs_zero}
use Rattle.integers.specs.Sums.{sum, sum_n, sum-suc, sum-ext, sum_0, sum--, sum-*r, sum-δ, sum_n-suc, sum_n-first, δ, δ-same}

-- f is not 0 at an index below n
pub record NotZero (n : ℕ) (f : ℕ → ℤ) : Type 0 where
  pub index : ℕ
  pub below : index < n
  pub nonzero : f index ≡ pos 0 → ⊥

-- some whole multiples of the m vectors, not all 0, add up to 0
pub record Dependent (n m : ℕ) (v : ℕ → ℕ → ℤ) : Type 0 where
  pub multiple : ℕ → ℤ
  pub some : NotZero m multiple
  pub vanishes : (i : ℕ) → i < n → sum m (λ k. multiple k *ℤ v k i) ≡ pos 0

-- ════ numbers that are not 0
zero_or_not : (n : ℕ) (f : ℕ → ℤ) → ((i : ℕ) → i < n → f i ≡ pos 0) ⊎ NotZero n f
zero_or_not zero f = inl (λ i h. absurd (omega arith))
zero_or_not (suc n) f = go (zero_or_not n f) (ℤ_discrete (f n) (pos 0))
  where
    last : ((i : ℕ) → i < n → f i ≡ pos 0) → f n ≡ pos 0 → (i : ℕ) → i < suc n → Dec (i ≡ n) → f i ≡ pos 0
    last z e i h (yes q) = ap f q ∙ e
    last z e i h (no q) = z i (omega arith)

    go : ((i : ℕ) → i < n → f i ≡ pos 0) ⊎ NotZero n f → Dec (f n ≡ pos 0) → ((i : ℕ) → i < suc n → f i ≡ pos 0) ⊎ NotZero (suc n) f
    go (inl z) (yes e) = inl (λ i h. last z e i h (ℕ_discrete i n))
    go (inl z) (no e) = inr (record { index = n; below = omega arith; nonzero = e })
    go (inr s) d = inr (record { index = s.index; below = omega (arith, s.below); nonzero = s.nonzero })

size_nonzero : (a : ℤ) → (a ≡ pos 0 → ⊥) → 1 ≤ nat_abs a
size_nonzero a h = let n : nat_abs a ≤ 0 → ⊥ = λ l. h (abs_zero a l) in omega arith

product_nonzero : (a b : ℤ) → (a ≡ pos 0 → ⊥) → (b ≡ pos 0 → ⊥) → a *ℤ b ≡ pos 0 → ⊥
product_nonzero a b p q e = omega (arith, mul-le-mul (size_nonzero a p) (size_nonzero b q), abs-* a b, ap nat_abs e)

-- ════ f below m, and z from m on
unfoldable pub extended : ℕ → (ℕ → ℤ) → ℤ → ℕ → ℤ
extended m f z k = cond (ltb k m) (f k) z

extended_below : (m : ℕ) (f : ℕ → ℤ) (z : ℤ) (k : ℕ) → k < m → extended m f z k ≡ f k
unfolding extended
extended_below m f z k h = ap (λ (b : Bool). cond b (f k) z) (lt-ltb k m h)

extended-last : (m : ℕ) (f : ℕ → ℤ) (z : ℤ) → extended m f z m ≡ z
unfolding extended
extended-last m f z = ap (λ (b : Bool). cond b (f m) z) (le-ltb m m (le_refl m))

pub sum-extended : (m : ℕ) (f : ℕ → ℤ) (z : ℤ) (g : ℕ → ℤ) → sum (suc m) (λ k. extended m f z k *ℤ g k) ≡ sum m (λ k. f k *ℤ g k) +ℤ z *ℤ g m
sum-extended m f z g =
    sum-suc m (λ k. extended m f z k *ℤ g k)
    ∙ ap₂ ◌+ℤ◌ (sum-ext m (λ k l. ap (λ (y : ℤ). y *ℤ g k) (extended_below m f z k l))) (ap (λ (y : ℤ). y *ℤ g m) (extended-last m f z))

-- ════ the numbers but p, renumbered from 0
unfoldable skip : ℕ → ℕ → ℕ
skip p i = cond (ltb i p) i (suc i)

-- what holds of each below n + 1 but p, and of p, holds of all
skipping : (n p : ℕ) (Q : ℕ → Type 0) → p < suc n → Q p → ((k : ℕ) → k < n → Q (skip p k)) → (i : ℕ) → i < suc n → Q i
unfolding skip
skipping n p Q h at others i l = go (ℕ_discrete p i) (dec_lt i p)
  where
    go : Dec (p ≡ i) → Dec (i < p) → Q i
    go (yes e) d = subst Q e at
    go (no e) (yes d) = subst Q (ap (λ (b : Bool). cond b i (suc i)) (lt-ltb i p d)) (others i (omega arith))
    go (no e) (no d) =
        let back : suc (i - 1) ≡ i = omega arith in
        subst Q (ap (λ (b : Bool). cond b (i - 1) (suc (i - 1))) (le-ltb (i - 1) p (omega arith)) ∙ back) (others (i - 1) (omega arith))

-- ════ the step: vectors 0 to m, of which the last is not 0 in coordinate p, or is 0
module _ (m : ℕ) (v : ℕ → ℕ → ℤ) (p : ℕ) where
  -- vector k with its coordinate p cleared by vector m
  abbrev cleared : ℕ → ℕ → ℤ
  cleared k i = v m p *ℤ v k i -ℤ v k p *ℤ v m i

  -- multiples c of the cleared vectors, as multiples of all
  abbrev restored : (ℕ → ℤ) → ℕ → ℤ
  restored c = extended m (λ k. v m p *ℤ c k) (neg_ℤ (sum m (λ k. c k *ℤ v k p)))

  sum-restored : (c : ℕ → ℤ) (i : ℕ) → sum (suc m) (λ k. restored c k *ℤ v k i) ≡ sum m (λ k. c k *ℤ cleared k i)
  sum-restored c i =
      sum-extended m (λ k. v m p *ℤ c k) (neg_ℤ (sum m (λ k. c k *ℤ v k p))) (λ k. v k i)
      ∙ ring (sum m (λ k. (v m p *ℤ c k) *ℤ v k i) ∷ sum m (λ k. c k *ℤ v k p) ∷ v m i ∷ []) (search shapes) tt
      ∙ sym
      (sum-ext m (λ k l. ring (c k ∷ v m p ∷ v k i ∷ v k p ∷ v m i ∷ []) (search shapes) tt)
      ∙ sum-- m (λ k. (v m p *ℤ c k) *ℤ v k i) (λ k. (c k *ℤ v k p) *ℤ v m i)
      ∙ ap (λ (z : ℤ). sum m (λ k. (v m p *ℤ c k) *ℤ v k i) -ℤ z) (sum-*r m (v m i) (λ k. c k *ℤ v k p)))

  cleared_at : (c : ℕ → ℤ) → sum m (λ k. c k *ℤ cleared k p) ≡ pos 0
  cleared_at c = sum-ext m (λ k l. ring (c k ∷ v m p ∷ v k p ∷ []) (search shapes) tt) ∙ sum_0 m

  step : (n : ℕ) → p < suc n → (v m p ≡ pos 0 → ⊥) → Dependent n m (λ k i. cleared k (skip p i)) → Dependent (suc n) (suc m) v
  step n h a d =
      let c = d.multiple in
      let k = d.some.index in
      let l = d.some.below in
      record {
        multiple = restored c;
        some = record {
          index = k;
          below = omega (arith, l);
          nonzero = λ e. product_nonzero (v m p) (c k) a d.some.nonzero (sym (extended_below m (λ k. v m p *ℤ c k) _ k l) ∙ e);
        };
        vanishes =
            skipping n p (λ i. sum (suc m) (λ k. restored c k *ℤ v k i) ≡ pos 0) h (sum-restored c p ∙ cleared_at c)
            (λ i l. sum-restored c (skip p i) ∙ d.vanishes i l);
      }

alone : (n m : ℕ) (v : ℕ → ℕ → ℤ) → ((i : ℕ) → i < n → v m i ≡ pos 0) → Dependent n (suc m) v
alone n m v z =
    record {
      multiple = δ m;
      some = record { index = m; below = omega arith; nonzero = λ e. let q : ◌≡◌ {A = ℕ} 1 0 = ap nat_abs (sym (δ-same m) ∙ e) in omega arith };
      vanishes = λ i l. sum-δ (suc m) m (λ k. v k i) (omega arith) ∙ z i l;
    }

pub dependent : (n m : ℕ) (v : ℕ → ℕ → ℤ) → n < m → Dependent n m v
dependent n zero v h = absurd (omega arith)
dependent zero (suc m) v h = alone zero m v (λ i l. absurd (omega arith))
dependent (suc n) (suc m) v h = go (λ w. dependent n m w (omega arith)) (zero_or_not (suc n) (v m))
  where
    go : ((w : ℕ → ℕ → ℤ) → Dependent n m w) → ((i : ℕ) → i < suc n → v m i ≡ pos 0) ⊎ NotZero (suc n) (v m) → Dependent (suc n) (suc m) v
    go fewer (inl z) = alone (suc n) m v z
    go fewer (inr s) = step m v s.index n s.below s.nonzero (fewer (λ k i. cleared m v s.index k (skip s.index i)))

-- ════ coordinates of which only some are not 0: `count i` is 0 where all vectors are 0 in coordinate i
module _ (count : ℕ → ℕ) where
  -- the coordinate below K with the number j, the numbers of those that count rising from 0
  unfoldable numbered : ℕ → ℕ → ℕ
  numbered zero j = 0
  numbered (suc K) j = cond (eqb j (sum_n K count)) K (numbered K j)

  before : (i K : ℕ) → i < K → 0 < count i → sum_n i count < sum_n K count
  before i K h c = omega (arith, sum_n-first (suc i) K count h, sum_n-suc i count)

  numbered-at : (K i : ℕ) → i < K → 0 < count i → numbered K (sum_n i count) ≡ i
  unfolding numbered
  numbered-at zero i h c = absurd (omega arith)
  numbered-at (suc K) i h c = go (numbered-at K i) (ℕ_discrete i K)
    where
      go : (i < K → 0 < count i → numbered K (sum_n i count) ≡ i) → Dec (i ≡ K) → cond (eqb (sum_n i count) (sum_n K count)) K (numbered K (sum_n i count)) ≡ i
      go rest (yes e) = ap (λ (b : Bool). cond b K (numbered K (sum_n i count))) (eq-eqb _ _ (ap (λ (k : ℕ). sum_n k count) e)) ∙ sym e
      go rest (no e) =
          let l : i < K = omega arith in
          let less = before i K l c in
          ap (λ (b : Bool). cond b K (numbered K (sum_n i count))) (ne_eqb (sum_n i count) (sum_n K count) (λ q. omega arith)) ∙ rest l c

  pub dependent-within : (K m : ℕ) (v : ℕ → ℕ → ℤ) → ((i : ℕ) → i < K → count i ≡ 0 → (k : ℕ) → v k i ≡ pos 0) → sum_n K count < m → Dependent K m v
  dependent-within K m v none h = record { multiple = d.multiple; some = d.some; vanishes = λ i l. go i l (dec_lt 0 (count i)) }
    where
      d : Dependent (sum_n K count) m (λ k j. v k (numbered K j))
      d = dependent (sum_n K count) m (λ k j. v k (numbered K j)) h

      go : (i : ℕ) → i < K → Dec (0 < count i) → sum m (λ k. d.multiple k *ℤ v k i) ≡ pos 0
      go i l (yes c) =
          subst (λ (p : ℕ). sum m (λ k. d.multiple k *ℤ v k p) ≡ pos 0) (numbered-at K i l c) (d.vanishes (sum_n i count) (before i K l c))
      go i l (no c) = sum-ext m (λ k q. ap (λ (z : ℤ). d.multiple k *ℤ z) (none i l (omega arith) k) ∙ *ℤ-zero (d.multiple k)) ∙ sum_0 m
