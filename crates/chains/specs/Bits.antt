-- Sets of small numbers, as the bits of a word. Assumes nothing.
use Rattle.std.specs.Prelude.{◌≡◌, refl, Bool, false, cond, ◌⊎◌, eqb}
use Rattle.std.proofs.Common.{sym, ap, ◌∙◌, ⊎_elim, arith, eqb-true, eq-eqb, shr-shr}
use Rattle.std.proofs.Math.Bool.{true}
use Rattle.std.proofs.Math.Logic.{inl, inr}
use Prim.Native.Nat.{ℕ, zero, suc, ◌+◌, ◌*◌, ◌/◌, ◌%◌, ◌≤◌, ◌<◌, ◌^◌}
use native.Mathlib.Nat.{pow-suc, le_refl}
use Rattle.std.proofs.Math.Decide.{ℕ_discrete}
use Rattle.std.proofs.Math.Numerals.{add-one}
use Rattle.std.proofs.lemmas.Bool.{eqb-false}
use Rattle.words.specs.Bools.{clash, true_or_false}

-- bit s of w, 0 or 1
unfoldable pub digit : ℕ → ℕ → ℕ
digit w zero = w % 2
digit w (suc s) = digit (w / 2) s

-- whether bit s of w is set
abbrev pub bit : ℕ → ℕ → Bool
bit w s = eqb (digit w s) 1

-- k of w, with w worked out first: a definition that names its word several times is computed by it in few steps
unfoldable pub worked_out : ℕ → (ℕ → ℕ) → ℕ
worked_out zero k = k zero
worked_out (suc w) k = k (suc w)

-- w with bit s set
unfoldable pub set_bit : ℕ → ℕ → ℕ
set_bit w s = worked_out w (λ v. cond (bit v s) v (v + 2 ^ s))

-- ---- laws
pub worked_out_lem : (w : ℕ) (k : ℕ → ℕ) → worked_out w k ≡ k w
unfolding worked_out
worked_out_lem zero k = refl
worked_out_lem (suc w) k = refl

one_shift : (s : ℕ) → 2 ^ (1 + s) ≡ 2 ^ suc s
one_shift s = let e : 1 + s ≡ suc s = omega arith in rw e

pub digit_shift : (s w : ℕ) → w / 2 ^ s % 2 ≡ digit w s
unfolding digit
digit_shift zero w = rw native.Mathlib.Nat.div-one
digit_shift (suc s) w = rw (← one_shift s, ← shr-shr w 1 s) (digit_shift s (w / 2))

pub digit-small : (s w : ℕ) → digit w s ≤ 1
unfolding digit
digit-small zero w = omega arith
digit-small (suc s) w = digit-small s (w / 2)

half : (s w : ℕ) → (w + 2 ^ suc s) / 2 ≡ w / 2 + 2 ^ s
half s w = rw pow-suc (omega arith)

pub digit-same : (s w : ℕ) → digit w s ≡ 0 → digit (w + 2 ^ s) s ≡ 1
unfolding digit
digit-same zero w h = omega arith
digit-same (suc s) w h = rw half (digit-same s (w / 2) h)

pub digit_other : (s t w : ℕ) → digit w s ≡ 0 → (t ≡ s → ⊥) → digit (w + 2 ^ s) t ≡ digit w t
unfolding digit
digit_other zero zero w h n = absurd (n refl)
digit_other zero (suc t) w h n = let e : (w + 2 ^ 0) / 2 ≡ w / 2 = omega arith in rw e
digit_other (suc s) zero w h n = rw pow-suc (omega arith)
digit_other (suc s) (suc t) w h n = rw half (digit_other s t (w / 2) h (λ e. n (ap suc e)))

-- a bit that is clear below k leaves room
pub digit_room : (s k w : ℕ) → digit w s ≡ 0 → s < k → w < 2 ^ k → w + 2 ^ s < 2 ^ k
unfolding digit
digit_room s zero w h l m = absurd (nope s l)
  where
    nope : (s : ℕ) → s < 0 → ⊥
    nope s l = omega arith
digit_room zero (suc k) w h l m = rw pow-suc (let m' : w < 2 ^ k * 2 = rw pow-suc at m in omega arith)
digit_room (suc s) (suc k) w h l m =
    let m' : w < 2 ^ k * 2 = rw pow-suc at m in
    let r : w / 2 + 2 ^ s < 2 ^ k = digit_room s k (w / 2) h (omega arith) (omega arith) in
    rw (pow-suc 2 s, pow-suc 2 k) (omega arith)

-- ---- laws of set_bit

clear : (w s : ℕ) → bit w s ≡ false → digit w s ≡ 0
clear w s e = let h = digit-small s w in let k : digit w s ≡ 1 → ⊥ = eqb-false _ _ e in low (digit w s) h k
  where
    low : (d : ℕ) → d ≤ 1 → (d ≡ 1 → ⊥) → d ≡ 0
    low d h k = omega (arith, k)

pub set_yes : (w s : ℕ) → bit w s ≡ true → set_bit w s ≡ w
unfolding set_bit
set_yes w s e = worked_out_lem w _ ∙ rw e

pub set_no : (w s : ℕ) → bit w s ≡ false → set_bit w s ≡ w + 2 ^ s
unfolding set_bit
set_no w s e = worked_out_lem w _ ∙ rw e

pub set_same : (w s : ℕ) → bit (set_bit w s) s ≡ true
set_same w s = ⊎_elim (λ e. rw (set_yes w s e) e) (λ e. rw (set_no w s e) (eq-eqb _ _ (digit-same s w (clear w s e)))) (true_or_false (bit w s))

pub set_other : (w s t : ℕ) → (t ≡ s → ⊥) → bit (set_bit w s) t ≡ bit w t
set_other w s t n = ⊎_elim (λ e. rw (set_yes w s e)) (λ e. rw (set_no w s e, digit_other s t w (clear w s e) n)) (true_or_false (bit w s))

pub set_grows : (w s : ℕ) → w ≤ set_bit w s
set_grows w s = ⊎_elim (λ e. rw (set_yes w s e) (le_refl w)) (λ e. rw (set_no w s e) (omega arith)) (true_or_false (bit w s))

pub set-fits : (w s : ℕ) → s < 32 → w < 2 ^ 32 → set_bit w s < 2 ^ 32
set-fits w s l m = ⊎_elim (λ e. rw (set_yes w s e) m) (λ e. rw (set_no w s e) (digit_room s 32 w (clear w s e) l m)) (true_or_false (bit w s))

-- where setting a bit changes nothing, the bit is set
pub set-stays : (w s : ℕ) → set_bit w s ≡ w → bit w s ≡ true
set-stays w s e = rw e at (set_same w s)

-- a set bit stays set
pub set_keeps : (w s t : ℕ) → bit w t ≡ true → bit (set_bit w s) t ≡ true
set_keeps w s t h = at (ℕ_discrete t s)
  where
    at : Dec (t ≡ s) → bit (set_bit w s) t ≡ true
    at (yes e) = rw e (set_same w s)
    at (no n) = set_other w s t n ∙ h

-- a bit that is set after was set before, or is the one
pub set_cases : (w s t : ℕ) → bit (set_bit w s) t ≡ true → (t ≡ s) ⊎ (bit w t ≡ true)
set_cases w s t h = at (ℕ_discrete t s)
  where
    at : Dec (t ≡ s) → (t ≡ s) ⊎ (bit w t ≡ true)
    at (yes e) = inl e
    at (no n) = inr (sym (set_other w s t n) ∙ h)

-- w, with at k put in for each k below n that passes
unfoldable pub put_in : ℕ → (ℕ → Bool) → (ℕ → ℕ) → ℕ → ℕ
put_in zero p at w = w
put_in (suc n) p at w = cond (p n) (set_bit (put_in n p at w) (at n)) (put_in n p at w)

digit_zero : (s : ℕ) → digit 0 s ≡ 0
unfolding digit
digit_zero zero = refl
digit_zero (suc s) = digit_zero s

-- no number is in the word 0
pub none_in : {X : Type 0} (s : ℕ) → bit 0 s ≡ true → X
none_in s e = let z : digit 0 s ≡ 1 = eqb-true (digit 0 s) 1 e in absurd (let o = digit_zero s in omega arith)

module _ (p : ℕ → Bool) (at : ℕ → ℕ) (w : ℕ) where
  -- s was put in
  pub record IsPut (n s : ℕ) : Type 0 where
    pub index : ℕ
    pub below : index < n
    pub passes : p index ≡ true
    pub is : at index ≡ s

  pub put_step : (n : ℕ) → put_in (n + 1) p at w ≡ cond (p n) (set_bit (put_in n p at w) (at n)) (put_in n p at w)
  unfolding put_in
  put_step n = rw add-one

  put_yes : (n : ℕ) → p n ≡ true → put_in (suc n) p at w ≡ set_bit (put_in n p at w) (at n)
  unfolding put_in
  put_yes n e = rw e

  put_no : (n : ℕ) → p n ≡ false → put_in (suc n) p at w ≡ put_in n p at w
  unfolding put_in
  put_no n e = rw e

  -- what is in it was in w, or was put in
  pub put_sound : (n s : ℕ) → bit (put_in n p at w) s ≡ true → (bit w s ≡ true) ⊎ IsPut n s
  unfolding put_in
  put_sound zero s e = inl e
  put_sound (suc n) s e = go (put_sound n s) (true_or_false (p n))
    where
      more : (bit w s ≡ true) ⊎ IsPut n s → (bit w s ≡ true) ⊎ IsPut (suc n) s
      more (inl b) = inl b
      more (inr r) = let l = r.below in inr (record { index = r.index; below = omega arith; passes = r.passes; is = r.is })

      go : (bit (put_in n p at w) s ≡ true → (bit w s ≡ true) ⊎ IsPut n s) → (p n ≡ true) ⊎ (p n ≡ false) → (bit w s ≡ true) ⊎ IsPut (suc n) s
      go ih (inl t) =
          ⊎_elim (λ q. inr (record { index = n; below = omega arith; passes = t; is = sym q })) (λ b. more (ih b)) (set_cases (put_in n p at w) (at n) s (rw (put_yes n t) at e))
      go ih (inr f) = more (ih (rw (put_no n f) at e))

  -- what was in w is in it
  pub put_keeps : (n s : ℕ) → bit w s ≡ true → bit (put_in n p at w) s ≡ true
  unfolding put_in
  put_keeps zero s b = b
  put_keeps (suc n) s b = go (put_keeps n s b) (true_or_false (p n))
    where
      go : bit (put_in n p at w) s ≡ true → (p n ≡ true) ⊎ (p n ≡ false) → bit (put_in (suc n) p at w) s ≡ true
      go ih (inl t) = rw (put_yes n t) (set_keeps (put_in n p at w) (at n) s ih)
      go ih (inr f) = rw (put_no n f) ih

  -- and so is what passes
  pub put_whole : (n k : ℕ) → k < n → p k ≡ true → bit (put_in n p at w) (at k) ≡ true
  put_whole zero k h e = absurd (omega arith)
  put_whole (suc n) k h e = go (put_whole n k) (ℕ_discrete k n) (true_or_false (p n))
    where
      go : (k < n → p k ≡ true → bit (put_in n p at w) (at k) ≡ true) → Dec (k ≡ n) → (p n ≡ true) ⊎ (p n ≡ false) → bit (put_in (suc n) p at w) (at k) ≡ true
      go ih (yes q) (inl t) = rw (put_yes n t, q) (set_same (put_in n p at w) (at n))
      go ih (yes q) (inr f) = clash (rw q at e) f
      go ih (no q) (inl t) = rw (put_yes n t) (set_keeps (put_in n p at w) (at n) (at k) (ih (omega arith) e))
      go ih (no q) (inr f) = rw (put_no n f) (ih (omega arith) e)

  pub put_fits : (n : ℕ) → ((k : ℕ) → k < n → at k < 32) → w < 2 ^ 32 → put_in n p at w < 2 ^ 32
  unfolding put_in
  put_fits zero low l = l
  put_fits (suc n) low l = go (put_fits n (λ k h. low k (omega arith)) l) (true_or_false (p n))
    where
      go : put_in n p at w < 2 ^ 32 → (p n ≡ true) ⊎ (p n ≡ false) → put_in (suc n) p at w < 2 ^ 32
      go ih (inl t) = rw (put_yes n t) (set-fits (put_in n p at w) (at n) (low n (omega arith)) ih)
      go ih (inr f) = rw (put_no n f) ih
