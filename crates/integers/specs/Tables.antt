-- Lists given by a function of the index. `tabulate n f` is f 0, f 1, .., n of them; `plus n l s f` is the list l with s times f k more at each index k below n; `Within n b l`
-- says that l has n entries, each of a size at most b.
--     use Rattle.integers.specs.Tables.{tabulate, is-tabulate, plus, plus_none, plus_step, Within, within-plus}
-- A list is shown to be a tabulate by its length and its entries: `is-tabulate n f l d length-is (λ k h. ..)`. A loop that adds to the entries of an array m₀ keeps `m ≡ plus n m₀ s f`:
-- `plus_none` at the start, `plus_step` for a turn that adds s v at index i, where the new function is f k +ℤ v *ℤ δ i k; and a bound of m comes from `within-plus`.
use Prim.Native.Nat.{ℕ, zero, suc, ◌+◌, ◌<◌, ◌≤◌, zero-le}
use Rattle.std.specs.Prelude.{◌≡◌, List, [], ◌∷◌, length, get_or, set, ℤ, pos, nat_abs, ◌+ℤ◌, ◌*ℤ◌}
use Rattle.std.proofs.Math.Path.{refl, ap}
use Rattle.std.proofs.Common.{sym, ◌∙◌, subst, arith, le_of_suc-le-suc, not-suc-le-zero, le_trans, mul-le-mul, length-set, ext_get_or, get_or-set_same, get_or-set_other}
use Rattle.std.proofs.Math.Decide.{dec_lt, ℕ_discrete}
use Rattle.std.proofs.Math.ListN.{get_or-eq_default}
use Rattle.integers.specs.Solvers.{ring, shapes}
use Rattle.integers.specs.Bounds.{abs-+, abs-*}
use Rattle.integers.specs.Sums.{δ, δ-same, δ_other}

-- f 0, f 1, .., n of them
unfoldable pub tabulate : {A : Type 0} → ℕ → (ℕ → A) → List A
tabulate zero f = []
tabulate (suc n) f = f 0 ∷ tabulate n (λ k. f (suc k))

module _ {A : Type 0} where
  pub length-tabulate : (n : ℕ) (f : ℕ → A) → length (tabulate n f) ≡ n
  unfolding tabulate
  length-tabulate zero f = refl
  length-tabulate (suc n) f = ap suc (length-tabulate n (λ k. f (suc k)))

  pub get_d_tabulate : (n : ℕ) (f : ℕ → A) (k : ℕ) (d : A) → k < n → get_or (tabulate n f) k d ≡ f k
  unfolding tabulate
  get_d_tabulate zero f k d h = absurd (not-suc-le-zero h)
  get_d_tabulate (suc n) f zero d h = refl
  get_d_tabulate (suc n) f (suc k) d h = get_d_tabulate n (λ m. f (suc m)) k d (le_of_suc-le-suc h)

  -- a list is the one given by f where it has n elements and f's value at each index
  pub is-tabulate : (n : ℕ) (f : ℕ → A) (l : List A) (d : A) → length l ≡ n → ((k : ℕ) → k < n → get_or l k d ≡ f k) → l ≡ tabulate n f
  is-tabulate n f l d e at =
      ext_get_or d l (tabulate n f) (e ∙ sym (length-tabulate n f))
      (λ k h. let q : k < n = omega arith in at k q ∙ sym (get_d_tabulate n f k d q))

  pub tabulate-ext : (n : ℕ) (f g : ℕ → A) → A → ((k : ℕ) → k < n → f k ≡ g k) → tabulate n f ≡ tabulate n g
  tabulate-ext n f g d h = is-tabulate n g (tabulate n f) d (length-tabulate n f) (λ k l. get_d_tabulate n f k d l ∙ h k l)

-- l, with s times f k more at each k
unfoldable pub plus : ℕ → List ℤ → ℤ → (ℕ → ℤ) → List ℤ
plus n l s f = tabulate n (λ k. get_or l k (pos 0) +ℤ s *ℤ f k)

-- n entries, each of a size at most b
pub record Within (n b : ℕ) (l : List ℤ) : Type 0 where
  pub long : length l ≡ n
  pub bound : (k : ℕ) → nat_abs (get_or l k (pos 0)) ≤ b

module _ (n : ℕ) (l : List ℤ) (s : ℤ) where
  pub plus-at : (f : ℕ → ℤ) (k : ℕ) → k < n → get_or (plus n l s f) k (pos 0) ≡ get_or l k (pos 0) +ℤ s *ℤ f k
  unfolding plus
  plus-at f k h = get_d_tabulate n _ k (pos 0) h

  pub plus-length : (f : ℕ → ℤ) → length (plus n l s f) ≡ n
  unfolding plus
  plus-length f = length-tabulate n _

  pub plus-is : (f : ℕ → ℤ) (m : List ℤ) → length m ≡ n → ((k : ℕ) → k < n → get_or m k (pos 0) ≡ get_or l k (pos 0) +ℤ s *ℤ f k) → m ≡ plus n l s f
  unfolding plus
  plus-is f m e h = is-tabulate n _ m (pos 0) e h

  pub plus-ext : (f g : ℕ → ℤ) → ((k : ℕ) → k < n → f k ≡ g k) → plus n l s f ≡ plus n l s g
  plus-ext f g h = plus-is g (plus n l s f) (plus-length f) (λ k p. plus-at f k p ∙ ap (λ (z : ℤ). get_or l k (pos 0) +ℤ s *ℤ z) (h k p))

  pub plus_none : (f : ℕ → ℤ) → length l ≡ n → ((k : ℕ) → f k ≡ pos 0) → l ≡ plus n l s f
  plus_none f e h = plus-is f l e (λ k p. ring (get_or l k (pos 0) ∷ s ∷ []) (search shapes) tt ∙ ap (λ (z : ℤ). get_or l k (pos 0) +ℤ s *ℤ z) (sym (h k)))

  -- one entry more: v at i
  plus-set : (f h : ℕ → ℤ) (i : ℕ) (v x : ℤ) → i < n → ((k : ℕ) → h k ≡ f k +ℤ v *ℤ δ i k) → x ≡ get_or (plus n l s f) i (pos 0) +ℤ s *ℤ v
      → set (plus n l s f) i x ≡ plus n l s h
  plus-set f h i v x p e q = plus-is h _ (length-set (plus n l s f) i x ∙ plus-length f) (λ k r. one k r (ℕ_discrete i k))
    where
      one : (k : ℕ) → k < n → Dec (i ≡ k) → get_or (set (plus n l s f) i x) k (pos 0) ≡ get_or l k (pos 0) +ℤ s *ℤ h k
      one k r (yes w) =
          subst (λ (j : ℕ). get_or (set (plus n l s f) i x) j (pos 0) ≡ get_or l j (pos 0) +ℤ s *ℤ h j) w
          (get_or-set_same (plus n l s f) i x (pos 0) (subst (λ (m : ℕ). i < m) (sym (plus-length f)) p)
          ∙ q ∙ ap (λ (z : ℤ). z +ℤ s *ℤ v) (plus-at f i p)
          ∙ ring (get_or l i (pos 0) ∷ s ∷ f i ∷ v ∷ []) (search shapes) tt
          ∙ ap (λ (z : ℤ). get_or l i (pos 0) +ℤ s *ℤ (f i +ℤ v *ℤ z)) (sym (δ-same i))
          ∙ ap (λ (z : ℤ). get_or l i (pos 0) +ℤ s *ℤ z) (sym (e i)))
      one k r (no w) =
          get_or-set_other (plus n l s f) i k x (pos 0) (λ y. w (sym y))
          ∙ plus-at f k r
          ∙ ring (get_or l k (pos 0) ∷ s ∷ f k ∷ v ∷ []) (search shapes) tt
          ∙ ap (λ (z : ℤ). get_or l k (pos 0) +ℤ s *ℤ (f k +ℤ v *ℤ z)) (sym (δ_other i k w))
          ∙ ap (λ (z : ℤ). get_or l k (pos 0) +ℤ s *ℤ z) (sym (e k))

-- the same of a list that is known to be such a sum: a loop's step
pub plus_step : (n : ℕ) (l : List ℤ) (s : ℤ) (f h : ℕ → ℤ) (m : List ℤ) (i : ℕ) (v x : ℤ) → m ≡ plus n l s f → i < n → ((k : ℕ) → h k ≡ f k +ℤ v *ℤ δ i k)
    → x ≡ get_or m i (pos 0) +ℤ s *ℤ v → set m i x ≡ plus n l s h
plus_step n l s f h m i v x e p g q =
    ap (λ (y : List ℤ). set y i x) e ∙ plus-set n l s f h i v x p g (q ∙ ap (λ (y : List ℤ). get_or y i (pos 0) +ℤ s *ℤ v) e)

-- two sums are one
pub plus-plus : (n : ℕ) (l : List ℤ) (s : ℤ) (f g h : ℕ → ℤ) → ((k : ℕ) → h k ≡ f k +ℤ g k) → plus n (plus n l s f) s g ≡ plus n l s h
plus-plus n l s f g h e =
    plus-is n l s h _ (plus-length n (plus n l s f) s g) (λ k p.
    plus-at n (plus n l s f) s g k p
    ∙ ap (λ (z : ℤ). z +ℤ s *ℤ g k) (plus-at n l s f k p)
    ∙ ring (get_or l k (pos 0) ∷ s ∷ f k ∷ g k ∷ []) (search shapes) tt
    ∙ ap (λ (z : ℤ). get_or l k (pos 0) +ℤ s *ℤ z) (sym (e k)))

pub within_more : (n a b : ℕ) (l : List ℤ) → a ≤ b → Within n a l → Within n b l
within_more n a b l h w = record { long = w.long; bound = λ k. le_trans (w.bound k) h }

-- a list's entries are bounded where those inside are
pub within-inside : (n b : ℕ) (l : List ℤ) → length l ≡ n → ((k : ℕ) → k < n → nat_abs (get_or l k (pos 0)) ≤ b) → Within n b l
within-inside n b l e h = record { long = e; bound = λ k. entry k (dec_lt k n) }
  where
    entry : (k : ℕ) → Dec (k < n) → nat_abs (get_or l k (pos 0)) ≤ b
    entry k (yes p) = h k p
    entry k (no p) = let q : length l ≤ k = omega arith in rw (get_or-eq_default l (pos 0) {n = k} q) zero-le

pub within-plus : (n : ℕ) (l : List ℤ) (s : ℤ) (f : ℕ → ℤ) (a b : ℕ) → nat_abs s ≤ 1 → Within n a l → ((k : ℕ) → nat_abs (f k) ≤ b) → Within n (a + b) (plus n l s f)
within-plus n l s f a b p w h =
    within-inside n (a + b) (plus n l s f) (plus-length n l s f)
    (λ k q. rw (plus-at n l s f k q)
    (omega (arith, abs-+ (get_or l k (pos 0)) (s *ℤ f k), abs-* s (f k), mul-le-mul p (h k), w.bound k)))

pub plus-tabulate : (n : ℕ) (f g h : ℕ → ℤ) → ((k : ℕ) → k < n → h k ≡ f k +ℤ g k) → plus n (tabulate n f) (pos 1) g ≡ tabulate n h
plus-tabulate n f g h e =
    is-tabulate n h _ (pos 0) (plus-length n (tabulate n f) (pos 1) g)
    (λ k p. plus-at n (tabulate n f) (pos 1) g k p ∙ ap (λ (z : ℤ). z +ℤ pos 1 *ℤ g k) (get_d_tabulate n f k (pos 0) p) ∙ ring (f k ∷ g k ∷ []) (search shapes) tt ∙ sym (e k p))

pub within-tabulate : (n b : ℕ) (f : ℕ → ℤ) → ((k : ℕ) → k < n → nat_abs (f k) ≤ b) → Within n b (tabulate n f)
within-tabulate n b f h = within-inside n b (tabulate n f) (length-tabulate n f) (λ k p. rw (get_d_tabulate n f k (pos 0) p) (h k p))
