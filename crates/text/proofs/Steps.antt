-- The steps of writing: a byte more of a text, a digit more of a number. Assumes nothing.
use mathlib.Core.Path.{◌≡◌, refl}
use mathlib.Core.Bool.{true, false}
use mathlib.Core.List.{List, [], ◌∷◌, ◌++◌}
use Prim.Native.Nat.{ℕ, zero, suc, ◌+◌, ◌-◌, ◌/◌, ◌%◌, ◌≤◌, ◌<◌}
use native.Mathlib.Omega.{arith}
use lib.ListN.{length, take}
use borrow.Rule.Slice.PartMut.{put_mid}
use Rattle.std.proofs.lemmas.List.Edits.{sets-eq}
use Rattle.std.proofs.lemmas.Slice.{take-put_mid, drop-put_mid}
use lib.ListN.{drop, take-append-drop}
use mathlib.Core.Path.{sym, ◌∙◌}
use lib.IntN.{ℤ, pos, nat_abs}
use lib.Signed.{lt_z}
use borrow.Author.Tests.{lt-ltb, le-ltb}
use Rattle.text.specs.Numbers.{zero_digit, minus_sign, most_digits, decimal_in, decimal}
use Rattle.text.specs.Writing.{Written, nothing, ◌then◌}

-- ════ a text, in one piece
pub text-put :
    (l : List ℕ) (at k : ℕ) (text part : List ℕ) → at + length text ≤ length l → k ≡ length text → part ≡ text → Written l at text (at + length text) (put_mid at k l part)
text-put l at k text part room size same = record { leaves = rw same (halves ∙ sym (sets-eq text l at room)); past = refl }
  where
    halves : put_mid at k l text ≡ take at l ++ text ++ drop (at + length text) l
    halves =
        sym (take-append-drop (at + length text) (put_mid at k l text))
        ∙ rw (take-put_mid at k l text (at + length text) refl (omega arith), drop-put_mid at k l text (at + length text) (omega arith) (omega arith) (sym size))

-- ════ a number, digit by digit
module _ (l : List ℕ) (at k n : ℕ) where
  pub no_digit : k ≡ 0 → Written l at (decimal_in k n) at l
  unfolding decimal_in
  no_digit e = rw e (nothing l at)

  module _ (p : ℕ) (m : List ℕ) (q : k ≡ 0 → ⊥) where
    pub one-digit : n < 10 → Written l at ((zero_digit + n) ∷ []) p m → Written l at (decimal_in k n) p m
    unfolding decimal_in
    one-digit h w = rw (one k q) at w
      where
        one : (j : ℕ) → (j ≡ 0 → ⊥) → (zero_digit + n) ∷ [] ≡ decimal_in j n
        one zero r = absurd (r refl)
        one (suc j) r = rw (lt-ltb n 10 h)

    pub more-digits :
        (next : ℕ) (after : List ℕ) →
        10 ≤ n →
        Written l at (decimal_in (k - 1) (n / 10)) p m →
        Written m p ((zero_digit + n % 10) ∷ []) next after →
        Written l at (decimal_in k n) next after
    unfolding decimal_in
    more-digits next after h w v = rw (more k q) at (w then v)
      where
        more : (j : ℕ) → (j ≡ 0 → ⊥) → decimal_in (j - 1) (n / 10) ++ ((zero_digit + n % 10) ∷ []) ≡ decimal_in j n
        more zero r = absurd (r refl)
        more (suc j) r = let e : suc j - 1 ≡ j = omega arith in rw (le-ltb n 10 h, e)

-- ════ the sign
module _ (l : List ℕ) (at next : ℕ) (after : List ℕ) (v : ℤ) (n : ℕ) (e : n ≡ nat_abs v) where
  pub unsigned-decimal : lt_z v (pos 0) ≡ false → Written l at (decimal_in most_digits n) next after → Written l at (decimal v) next after
  unfolding decimal
  unsigned-decimal t w = rw (t, ← e) w

  pub signed_decimal :
      (p : ℕ) (m : List ℕ) →
      lt_z v (pos 0) ≡ true →
      Written l at (minus_sign ∷ []) p m →
      Written m p (decimal_in most_digits n) next after →
      Written l at (decimal v) next after
  unfolding decimal
  signed_decimal p m t w u = rw (t, ← e) (w then u)
