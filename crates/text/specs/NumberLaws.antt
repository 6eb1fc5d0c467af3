-- Reading what was written gives the number back: `number-back`. Assumes nothing.
use Rattle.std.specs.Prelude.{◌≡◌, refl, true, cond, Some, ◌&&◌, List, [], ◌∷◌, ◌++◌, ℕ, zero, suc, ◌+◌, ◌-◌, ◌*◌, ◌/◌, ◌%◌, ◌^◌, ◌≤◌, ◌<◌, ℤ, pos, negsuc, leb, ltb, length}
use Rattle.std.proofs.Common.{◌∙◌, arith, pow-suc, length-append, lt-ltb, le-ltb, le-leb, ne_eqb, leb-true, SFits}
use Rattle.std.proofs.Math.Decide.{dec_lt}
use Rattle.std.specs.Int.{w64}
use Rattle.words.specs.Bools.{and_both, and_left}
use Rattle.text.specs.Numbers.{zero_digit, nine_digit, minus_sign, most_digits, most_positive, most_negative, is_digit, all_digits, is_decimal, value_after, value_of, minus, signed_of, number_in, decimal_in, decimal}

-- ════ a digit more at the end
value_snoc : (n : ℕ) (ds : List ℕ) (c : ℕ) → value_after n (ds ++ (c ∷ [])) ≡ value_after n ds * 10 + (c - zero_digit)
unfolding value_after
value_snoc n [] c = refl
value_snoc n (d ∷ ds) c = value_snoc (n * 10 + (d - zero_digit)) ds c

digits_snoc : (ds : List ℕ) (c : ℕ) → all_digits ds ≡ true → is_digit c ≡ true → all_digits (ds ++ (c ∷ [])) ≡ true
unfolding all_digits
digits_snoc [] c p q = and_both (is_digit c) true q refl
digits_snoc (d ∷ ds) c p q =
    and_both (is_digit d) (all_digits (ds ++ (c ∷ []))) (and_left (is_digit d) (all_digits ds) p) (digits_snoc ds c (right p) q)
  where
    right : is_digit d && all_digits ds ≡ true → all_digits ds ≡ true
    right e = rw (and_left (is_digit d) (all_digits ds) e) at e

a_digit : (d : ℕ) → d < 10 → is_digit (zero_digit + d) ≡ true
a_digit d h = and_both (leb zero_digit (zero_digit + d)) (leb (zero_digit + d) nine_digit) (le-leb zero_digit (zero_digit + d) (omega arith)) (le-leb (zero_digit + d) nine_digit (omega arith))

-- ════ the digits of n
-- what holds of one digit, and of more, holds of all
by_digits :
    (P : List ℕ → Type 0) (k n : ℕ) →
    (n < 10 → P ((zero_digit + n) ∷ [])) →
    (10 ≤ n → P (decimal_in k (n / 10) ++ ((zero_digit + n % 10) ∷ []))) →
    P (decimal_in (suc k) n)
unfolding decimal_in
by_digits P k n one more = by (dec_lt n 10)
  where
    by : Dec (n < 10) → P (cond (ltb n 10) ((zero_digit + n) ∷ []) (decimal_in k (n / 10) ++ ((zero_digit + n % 10) ∷ [])))
    by (yes h) = rw (lt-ltb n 10 h) (one h)
    by (no h) = rw (le-ltb n 10 (omega arith)) (more (omega arith))

decimal-digits : (k n : ℕ) → all_digits (decimal_in k n) ≡ true
unfolding decimal_in all_digits
decimal-digits zero n = refl
decimal-digits (suc k) n =
    by_digits (λ ds. all_digits ds ≡ true) k n (λ h. digits_snoc [] (zero_digit + n) refl (a_digit n h))
    (λ h. digits_snoc (decimal_in k (n / 10)) (zero_digit + n % 10) (decimal-digits k (n / 10)) (a_digit (n % 10) (omega arith)))

pub decimal-value : (k n : ℕ) → n < 10 ^ k → value_of (decimal_in k n) ≡ n
unfolding decimal_in value_after
decimal-value zero n h = let e : n < 1 = h in omega arith
decimal-value (suc k) n h =
    by_digits (λ ds. value_of ds ≡ n) k n (λ l. omega arith)
    (λ l.
    let b : n < 10 ^ k * 10 = rw (pow-suc 10 k) at h in
    let small : n / 10 < 10 ^ k = omega arith in
    rw (value_snoc 0 (decimal_in k (n / 10)) (zero_digit + n % 10), decimal-value k (n / 10) small) (omega arith))

decimal_some : (k n : ℕ) → 0 < length (decimal_in (suc k) n)
decimal_some k n =
    by_digits (λ ds. 0 < length ds) k n (λ h. omega arith)
    (λ h. rw (length-append (decimal_in k (n / 10)) ((zero_digit + n % 10) ∷ [])) (omega arith))

-- ════ a list of digits as a field
some_decimal : (ds : List ℕ) → 0 < length ds → all_digits ds ≡ true → is_decimal ds ≡ true
unfolding is_decimal
some_decimal [] h e = absurd (omega arith)
some_decimal (d ∷ ds) h e = e

signed_in : (sign : ℕ → ℤ) (most n : ℕ) (ds : List ℕ) → is_decimal ds ≡ true → value_of ds ≡ n → n ≤ most → signed_of sign most ds ≡ Some (sign n)
unfolding signed_of
signed_in sign most n ds d e h = rw (d, e, le-leb n most h)

-- digits are no `-`
number_digits : (ds : List ℕ) → 0 < length ds → all_digits ds ≡ true → number_in ds ≡ signed_of pos most_positive ds
unfolding number_in all_digits
number_digits [] h e = absurd (omega arith)
number_digits (c ∷ cs) h e =
    rw (ne_eqb c minus_sign (λ q. let l : zero_digit ≤ c = leb-true zero_digit c (and_left (leb zero_digit c) (leb c nine_digit) (and_left (is_digit c) (all_digits cs) e)) in omega arith))

twenty : (n : ℕ) → is_decimal (decimal_in most_digits n) ≡ true
twenty n = some_decimal (decimal_in most_digits n) (decimal_some 19 n) (decimal-digits most_digits n)

-- the law: every 64-bit number is read back as it was written
pub number-back : (v : ℤ) → SFits w64 v → number_in (decimal v) ≡ Some v
unfolding decimal number_in
number-back (pos n) f =
    let h : n < 9223372036854775808 = f.sfits in
    rw (le-ltb n 0 (omega arith))
    (number_digits (decimal_in most_digits n) (decimal_some 19 n) (decimal-digits most_digits n)
    ∙ signed_in pos most_positive n (decimal_in most_digits n) (twenty n) (decimal-value most_digits n (omega arith)) (omega arith))
number-back (negsuc k) f =
    let h : k < 9223372036854775808 = f.sfits in
    signed_in minus most_negative (suc k) (decimal_in most_digits (suc k)) (twenty (suc k)) (decimal-value most_digits (suc k) (omega arith)) (omega arith)

-- ════ room
