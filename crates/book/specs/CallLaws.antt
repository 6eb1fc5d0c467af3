-- Laws of the table: what a call that is not refused has shown, that the table looks at the 256 places alone, which calls get 7, and how large its numbers are.
-- Assumes nothing.
use Prim.Native.Nat.{ℕ, zero, suc, ◌<◌, ◌≤◌}
use Rattle.std.proofs.Math.Path.{◌≡◌, refl, ap}
use Rattle.std.proofs.Common.{◌∙◌, inl, inr, ltb-true}
use Rattle.std.specs.Prelude.{Bool, ◌⊎◌, ◌↔◌, ℤ}
use Rattle.std.proofs.Math.Bool.{true, false, cond}
use mathlib.Core.List.{List}
use native.Mathlib.Omega.{arith}
use Rattle.words.specs.SignedLaws.{index_test}
use Rattle.network.specs.Records.{is_empty}
use Rattle.network.specs.Rules.{in_list, record_no}
use Rattle.network.specs.declared.Network.{Network}
use Rattle.network.specs.declared.Place.{Place}
use Rattle.network.specs.declared.Record.{Record}
use Rattle.normals.specs.Formulas.{entries_fit}
use Rattle.network.specs.RuleLaws.{record_no-small}
use Rattle.book.specs.declared.Change.{Change}
use Rattle.book.specs.declared.Change.TheVariants.{Enter, Strike}
use Rattle.book.specs.declared.Call.{Call}
use Rattle.book.specs.declared.Call.TheVariants.{Edit, Undo}
use Rattle.book.specs.Calls.{place_of, first, place_no, empty_no, undo_no, changed, places_of, size_no, change_no, call_no, unless}
use Rattle.book.specs.PlaceLaws.{changed-ext, places_of-ext}

-- ════ a number that is 0
pub first_zero : (m n : ℕ) → first m n ≡ 0 → (m ≡ 0) × (n ≡ 0)
unfolding first
first_zero zero n e = (refl, e)
first_zero (suc m) n e = absurd (let z : suc m ≡ 0 = e in omega arith)

-- the second number counts only where the first is 0
pub first-same : (m n k : ℕ) → (m ≡ 0 → n ≡ k) → first m n ≡ first m k
unfolding first
first-same zero n k e = e refl
first-same (suc m) n k e = refl

cond_zero : (b : Bool) (n : ℕ) → ◌≡◌ {A = ℕ} (cond b 0 (suc n)) 0 → b ≡ true
cond_zero true n e = refl
cond_zero false n e = absurd (let z : suc n ≡ 0 = e in omega arith)

cond_not_zero : (b : Bool) (n : ℕ) → ◌≡◌ {A = ℕ} (cond b (suc n) 0) 0 → b ≡ false
cond_not_zero false n e = refl
cond_not_zero true n e = absurd (let z : suc n ≡ 0 = e in omega arith)

pub place_inside : (p : ℤ) → place_no p ≡ 0 → place_of p < 256
unfolding place_no
place_inside p e = ltb-true _ _ (index_test p 256 ∙ cond_zero (in_list 256 p) 1 e)

pub empty_zero : (r : Record) → empty_no r ≡ 0 → is_empty r ≡ false
unfolding empty_no
empty_zero r e = cond_not_zero (is_empty r) 6 e

pub undo_zero : (n : ℕ) → undo_no n ≡ 0 → 0 < n
unfolding undo_no
undo_zero zero e = absurd (let z : ◌≡◌ {A = ℕ} 8 0 = e in omega arith)
undo_zero (suc n) e = omega arith

pub some_undo : (n : ℕ) → 0 < n → undo_no n ≡ 0
unfolding undo_no
some_undo zero h = absurd (omega arith)
some_undo (suc n) h = refl

-- "8 | undo | history empty"
pub undo_eight : (n : ℕ) → undo_no n ≡ 8 → n ≡ 0
unfolding undo_no
undo_eight zero e = refl
undo_eight (suc n) e = absurd (let z : ◌≡◌ {A = ℕ} 0 8 = e in omega arith)

pub none_undo : (n : ℕ) → n ≡ 0 → undo_no n ≡ 8
unfolding undo_no
none_undo zero e = refl
none_undo (suc n) e = absurd (let z : suc n ≡ 0 = e in omega arith)

-- ════ a refusal changes nothing
pub unless-none : {A : Type 0} (n : ℕ) (a b : A) → n ≡ 0 → unless n a b ≡ b
unfolding unless
unless-none n a b e = rw e

pub unless_some : {A : Type 0} (n : ℕ) (a b : A) → (n ≡ 0 → ⊥) → unless n a b ≡ a
unfolding unless
unless_some zero a b h = absurd (h refl)
unless_some (suc n) a b h = refl

pub unless-either : {A : Type 0} (P : A → Type 0) (n : ℕ) (a b : A) → P a → (n ≡ 0 → P b) → P (unless n a b)
unfolding unless
unless-either P zero a b p q = q refl
unless-either P (suc n) a b p q = p

-- two that refuse alike
pub unless-both : {A B : Type 0} (R : A → B → Type 0) (n m : ℕ) (a a' : A) (b b' : B) → n ≡ m → R a b → (n ≡ 0 → R a' b') → R (unless n a a') (unless m b b')
unfolding unless
unless-both R zero zero a a' b b' e p q = q refl
unless-both R (suc n) (suc m) a a' b b' e p q = p
unless-both R zero (suc m) a a' b b' e p q = absurd (let z : 0 ≡ suc m = e in omega arith)
unless-both R (suc n) zero a a' b b' e p q = absurd (let z : suc n ≡ 0 = e in omega arith)

-- ════ the table looks at the records of the 256 places, and at nothing beyond
module _ (net : Network) (f g : ℕ → Record) (same : (p : ℕ) → p < 256 → f p ≡ g p) where
  size_same : (p : ℕ) (r : Record) → size_no net f p r ≡ size_no net g p r
  unfolding size_no
  size_same p r =
      ap (λ (l : List Place). cond (entries_fit net.stations l) 0 9)
      (places_of-ext (changed f p r) (changed g p r) (λ k h. changed-ext f g p r k (same k h)))

  change-same : (p : ℕ) (c : Change) → p < 256 → change_no net f p c ≡ change_no net g p c
  unfolding change_no
  change-same p (Enter r) h = ap (first (record_no net r)) (size_same p r)
  change-same p Strike h = ap empty_no (same p h)

  pub call_same : (count : ℕ) (c : Call) → call_no net f count c ≡ call_no net g count c
  unfolding call_no
  call_same count (Edit p c) = first-same (place_no p) _ _ (λ e. change-same (place_of p) c (place_inside p e))
  call_same count Undo = refl

-- ════ "7 now means a strike of an empty place, nothing else"
first-is : (m n k : ℕ) → first m n ≡ suc k → (m ≡ suc k) ⊎ ((m ≡ 0) × (n ≡ suc k))
unfolding first
first-is zero n k e = inr (refl, e)
first-is (suc m) n k e = inl e

-- a test that gives 0 or another number than 7
not_seven : (t : Bool) (n : ℕ) → (n ≡ 7 → ⊥) → cond t 0 n ≡ 7 → ⊥
not_seven true n h e = absurd (let z : ◌≡◌ {A = ℕ} 0 7 = e in omega arith)
not_seven false n h e = h e

module _ (net : Network) (at : ℕ → Record) where
  place_not_seven : (p : ℤ) → place_no p ≡ 7 → ⊥
  unfolding place_no
  place_not_seven p e = not_seven (in_list 256 p) 2 (λ q. omega arith) e

  size_not_seven : (p : ℕ) (r : Record) → size_no net at p r ≡ 7 → ⊥
  unfolding size_no
  size_not_seven p r e = not_seven (entries_fit net.stations (places_of (changed at p r))) 9 (λ q. omega arith) e

  enter_not_seven : (p : ℕ) (r : Record) → change_no net at p (Enter r) ≡ 7 → ⊥
  unfolding change_no
  enter_not_seven p r e = by (first-is (record_no net r) (size_no net at p r) 6 e)
    where
      by : (record_no net r ≡ 7) ⊎ ((record_no net r ≡ 0) × (size_no net at p r ≡ 7)) → ⊥
      by (inl q) = omega (arith, record_no-small net r)
      by (inr q) = size_not_seven p r q.1

  pub seven_strikes : (count : ℕ) (c : Call) → (call_no net at count c ≡ 7) ↔ ((p : ℤ) × (c ≡ Edit p Strike) × (place_no p ≡ 0) × (is_empty (at (place_of p)) ≡ true))
  unfolding call_no change_no undo_no empty_no first
  seven_strikes count (Edit p (Enter r)) = (
    (λ e. absurd (by (first-is (place_no p) _ 6 e))),
    (λ w. let z : Edit p (Enter r) ≡ Edit w.0 Strike = w.1 in let k : ◌≡◌ {A = ℕ} 0 1 = cc in absurd (omega arith)),
  )
    where
      by : (place_no p ≡ 7) ⊎ ((place_no p ≡ 0) × (change_no net at (place_of p) (Enter r) ≡ 7)) → ⊥
      by (inl q) = place_not_seven p q
      by (inr q) = enter_not_seven (place_of p) r q.1
  seven_strikes count (Edit p Strike) = ((λ e. by (first-is (place_no p) _ 6 e)), back)
    where
      empty : (t : Bool) → ◌≡◌ {A = ℕ} (cond t 7 0) 7 → t ≡ true
      empty true q = refl
      empty false q = absurd (let z : ◌≡◌ {A = ℕ} 0 7 = q in omega arith)

      by : (place_no p ≡ 7) ⊎ ((place_no p ≡ 0) × (empty_no (at (place_of p)) ≡ 7)) → (q : ℤ) × (Edit p Strike ≡ Edit q Strike) × (place_no q ≡ 0) × (is_empty (at (place_of q)) ≡ true)
      by (inl q) = absurd (place_not_seven p q)
      by (inr q) = (p, refl, q.0, empty (is_empty (at (place_of p))) q.1)

      back : (q : ℤ) × (Edit p Strike ≡ Edit q Strike) × (place_no q ≡ 0) × (is_empty (at (place_of q)) ≡ true) → first (place_no p) (empty_no (at (place_of p))) ≡ 7
      back (q, e, i, j) = let z : p ≡ q = cc in rw (z, i, j)
  seven_strikes count Undo = ((λ e. absurd (by count e)), (λ w. let z : Undo ≡ Edit w.0 Strike = w.1 in let k : ◌≡◌ {A = ℕ} 0 1 = cc in absurd (omega arith)))
    where
      by : (n : ℕ) → undo_no n ≡ 7 → ⊥
      by zero q = absurd (let z : ◌≡◌ {A = ℕ} 8 7 = q in omega arith)
      by (suc n) q = absurd (let z : ◌≡◌ {A = ℕ} 0 7 = q in omega arith)

-- ════ no number of the table is above 9
first_small : (m n : ℕ) → m ≤ 9 → n ≤ 9 → first m n ≤ 9
unfolding first
first_small zero n p q = q
first_small (suc m) n p q = p

cond_small : (b : Bool) (m n : ℕ) → m ≤ 9 → n ≤ 9 → cond b m n ≤ 9
cond_small true m n p q = p
cond_small false m n p q = q

module _ (net : Network) (at : ℕ → Record) where
  place_small : (p : ℤ) → place_no p ≤ 9
  unfolding place_no
  place_small p = cond_small (in_list 256 p) 0 2 (omega arith) (omega arith)

  empty_small : (r : Record) → empty_no r ≤ 9
  unfolding empty_no
  empty_small r = cond_small (is_empty r) 7 0 (omega arith) (omega arith)

  size_small : (p : ℕ) (r : Record) → size_no net at p r ≤ 9
  unfolding size_no
  size_small p r = cond_small (entries_fit net.stations (places_of (changed at p r))) 0 9 (omega arith) (omega arith)

  undo_small : (n : ℕ) → undo_no n ≤ 9
  unfolding undo_no
  undo_small zero = omega arith
  undo_small (suc n) = omega arith

  record_small : (r : Record) → record_no net r ≤ 9
  record_small r = omega (arith, record_no-small net r)

  change-small : (p : ℕ) (c : Change) → change_no net at p c ≤ 9
  unfolding change_no
  change-small p (Enter r) = first_small _ _ (record_small r) (size_small p r)
  change-small p Strike = empty_small (at p)

  pub call_small : (count : ℕ) (c : Call) → call_no net at count c ≤ 9
  unfolding call_no
  call_small count (Edit p c) = first_small _ _ (place_small p) (change-small (place_of p) c)
  call_small count Undo = undo_small _
