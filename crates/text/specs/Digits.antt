-- A run of digits as the code reads it, with its value cut above every 64-bit number; that this is what `Numbers` says. Assumes nothing.
use Rattle.std.specs.Prelude.{◌≡◌, refl, ℕ, zero, suc, ◌+◌, ◌-◌, ◌*◌, ◌^◌, ◌≤◌, ◌<◌, min, Bool, true, false, cond, ◌&&◌, List, [], ◌∷◌, leb, Option, Some, None, length, get_or, drop, ℤ, ◌-ℤ◌, Result, Ok, Err}
use Rattle.std.proofs.Math.Path.{sym}
use Rattle.std.proofs.Common.{ap, ◌∙◌, arith, drop_of_length-le, drop-cons, to_z, leb-true, eq-eqb, ne_eqb, le-leb, SFits}
use Rattle.std.proofs.Math.Decide.{dec_le}
use Rattle.std.proofs.lemmas.Int.{ints}
use Rattle.std.proofs.Math.Numerals.{add-one}
use Rattle.std.proofs.Math.IntN.{pos}
use Rattle.std.specs.Int.{w64}
use Rattle.std.specs.Option.{SomeIff}
use Rattle.std.specs.Result.{OkIff, result_ok}
use mir.ValLaws.{to_z-neg}
use Rattle.std.proofs.lemmas.Bool.{lt-leb}
use Rattle.words.specs.Bools.{and_left, and_right}
use Rattle.text.specs.Numbers.{zero_digit, nine_digit, minus_sign, most_positive, most_negative, is_digit, all_digits, is_decimal, value_after, value_of, minus, signed_of, number_in}

-- 2 ^ 63 + 1, which is beyond signed 64 bits with either sign
abbrev pub cut_to : ℕ
cut_to = 9223372036854775809

abbrev pub cut : ℕ → ℕ
cut n = min n cut_to

-- digits after those that gave n
unfoldable pub digits_after : ℕ → List ℕ → Option ℕ
digits_after n ds = cond (all_digits ds) (Some (cut (value_after n ds))) None

unfoldable pub digits_of : List ℕ → Option ℕ
digits_of ds = cond (is_decimal ds) (Some (cut (value_of ds))) None

-- a sign, where the value is at most `most`
abbrev pub signed_within : (ℕ → ℤ) → ℕ → Option ℕ → Option ℤ
signed_within sign most None = None
signed_within sign most (Some n) = cond (leb n most) (Some (sign n)) None

-- ════ the laws of the loop
pub digit_bounds : (c : ℕ) → is_digit c ≡ true → (zero_digit ≤ c) × (c ≤ nine_digit)
digit_bounds c e = (leb-true zero_digit c (and_left (leb zero_digit c) (leb c nine_digit) e), leb-true c nine_digit (and_right (leb zero_digit c) (leb c nine_digit) e))

cut_step : (n k : ℕ) → cut (cut n * 10 + k) ≡ cut (n * 10 + k)
cut_step n k = omega arith

-- cutting on the way is cutting at the end
cut-after : (n : ℕ) (ds : List ℕ) → cut (value_after (cut n) ds) ≡ cut (value_after n ds)
unfolding value_after
cut-after n [] = omega arith
cut-after n (c ∷ cs) =
    sym (cut-after (cut n * 10 + (c - zero_digit)) cs) ∙ ap (λ (m : ℕ). cut (value_after m cs)) (cut_step n (c - zero_digit)) ∙ cut-after (n * 10 + (c - zero_digit)) cs

module _ (s : List ℕ) (n i : ℕ) where
  pub digits_more :
      (m : ℕ) →
      m ≡ cut (n * 10 + (get_or s i 0 - zero_digit)) →
      i < length s →
      is_digit (get_or s i 0) ≡ true →
      digits_after m (drop (i + 1) s) ≡ digits_after n (drop i s)
  unfolding digits_after value_after all_digits
  digits_more m q h e =
      sym (rw (drop-cons s i 0 h, e, add-one, q, cut-after (n * 10 + (get_or s i 0 - zero_digit)) (drop (suc i) s)))

  pub digits_wrong : i < length s → is_digit (get_or s i 0) ≡ false → None ≡ digits_after n (drop i s)
  unfolding digits_after all_digits
  digits_wrong h e = rw (drop-cons s i 0 h, e)

  pub digits_end : (n ≡ cut n) → length s ≤ i → Some n ≡ digits_after n (drop i s)
  unfolding digits_after all_digits value_after
  digits_end q h = rw (drop_of_length-le s h, ← q)

pub digits-none : (s : List ℕ) (i : ℕ) → length s ≤ i → None ≡ digits_of (drop i s)
unfolding digits_of is_decimal
digits-none s i h = rw (drop_of_length-le s h)

pub digits-start : (s : List ℕ) (i : ℕ) → i < length s → digits_after 0 (drop i s) ≡ digits_of (drop i s)
unfolding digits_after digits_of is_decimal
digits-start s i h = rw (drop-cons s i 0 h)

-- ════ the sign
within-is : (sign : ℕ → ℤ) (most : ℕ) (ds : List ℕ) → most ≤ most_negative → signed_within sign most (digits_of ds) ≡ signed_of sign most ds
unfolding digits_of signed_of
within-is sign most ds h = by (is_decimal ds) (dec_le (value_of ds) most)
  where
    by :
        (t : Bool) →
        Dec (value_of ds ≤ most) →
        signed_within sign most (cond t (Some (cut (value_of ds))) None) ≡ cond (t && leb (value_of ds) most) (Some (sign (value_of ds))) None
    by false d = refl
    by true (yes k) = let e : cut (value_of ds) ≡ value_of ds = omega arith in rw e
    by true (no k) = rw (lt-leb (value_of ds) most (omega arith), lt-leb (cut (value_of ds)) most (omega arith))

-- what a field says is its digits after a `-`, or all its bytes, with a sign
pub number-minus : (s : List ℕ) (d : Option ℕ) → get_or s 0 0 ≡ minus_sign → d ≡ digits_of (drop 1 s) → signed_within minus most_negative d ≡ number_in s
unfolding number_in
number-minus [] d e q = absurd (omega arith)
number-minus (c ∷ cs) d e q = rw q (within-is minus most_negative cs (omega arith) ∙ sym (rw (eq-eqb c minus_sign e)))

pub number-plus : (s : List ℕ) (d : Option ℕ) → (get_or s 0 0 ≡ minus_sign → ⊥) → d ≡ digits_of s → signed_within pos most_positive d ≡ number_in s
unfolding number_in digits_of is_decimal
number-plus [] d e q = rw q
number-plus (c ∷ cs) d e q = rw q (within-is pos most_positive (c ∷ cs) (omega arith) ∙ sym (rw (ne_eqb c minus_sign e)))

pub number-none : (s : List ℕ) → length s ≡ 0 → None ≡ number_in s
unfolding number_in
number-none [] h = refl
number-none (c ∷ cs) h = absurd (omega arith)

module _ (sign : ℕ → ℤ) (most : ℕ) (d : Option ℕ) where
  pub within_none : d ≡ None → None ≡ signed_within sign most d
  within_none e = rw e

  pub within_in : (n : ℕ) → d ≡ Some n → n ≤ most → Some (sign n) ≡ signed_within sign most d
  within_in n e h = rw (e, le-leb n most h)

  pub within-beyond : (n : ℕ) → d ≡ Some n → most < n → None ≡ signed_within sign most d
  within-beyond n e h = rw (e, lt-leb n most h)

-- ════ a sign, as the library's conversions give it
minus-is : (n : ℕ) → pos 0 -ℤ pos n ≡ minus n
minus-is n = omega (arith, ints)

minus-fits : (n : ℕ) → n ≤ most_negative → SFits w64 (minus n)
minus-fits zero h = record { sfits = omega arith }
minus-fits (suc k) h = record { sfits = omega arith }

minus-small : (n : ℕ) → SFits w64 (minus n) → n ≤ most_negative
minus-small zero f = omega arith
minus-small (suc k) f = let h : k < 9223372036854775808 = f.sfits in omega arith

pub within-minus : (n : ℕ) (r : Option ℤ) → SomeIff r (SFits w64 (pos 0 -ℤ pos n)) (pos 0 -ℤ pos n) → r ≡ signed_within minus most_negative (Some n)
within-minus n r h = by r (rw (minus-is n) at h) (dec_le n most_negative)
  where
    by : (r : Option ℤ) → SomeIff r (SFits w64 (minus n)) (minus n) → Dec (n ≤ most_negative) → r ≡ signed_within minus most_negative (Some n)
    by None f (yes k) = absurd (f (minus-fits n k))
    by None f (no k) = rw (lt-leb n most_negative (omega arith))
    by (Some v) (f, e) d = rw (le-leb n most_negative (minus-small n f), e)

pub within-plus : {E : Type 0} (n : ℕ) (r : Result ℤ E) → OkIff r (SFits w64 (pos n)) (pos n) → result_ok r ≡ signed_within pos most_positive (Some n)
within-plus n (Ok v) (f, e) = let h : n < 9223372036854775808 = f.sfits in rw (le-leb n most_positive (omega arith), e)
within-plus n (Err x) f = by (dec_le n most_positive)
  where
    by : Dec (n ≤ most_positive) → None ≡ signed_within pos most_positive (Some n)
    by (yes k) = absurd (f (record { sfits = omega arith }))
    by (no k) = rw (lt-leb n most_positive (omega arith))

-- ════ -n by its bits
pub minus_zero : (n : ℕ) → n ≡ 0 → pos 0 ≡ minus n
minus_zero n e = rw e

pub minus-bits : (n : ℕ) → n ≤ 9223372036854775808 → (n ≡ 0 → ⊥) → to_z w64 (18446744073709551615 - (n - 1)) ≡ minus n
minus-bits zero h q = absurd (q refl)
minus-bits (suc k) h q = ap (to_z w64) (bits k h) ∙ to_z-neg w64 k (omega arith)
  where
    bits : (k : ℕ) → suc k ≤ 9223372036854775808 → 18446744073709551615 - (suc k - 1) ≡ 2 ^ 64 - suc k
    bits k h = omega arith
