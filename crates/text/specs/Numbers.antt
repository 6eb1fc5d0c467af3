-- Decimal numbers in text: "numbers are decimal with - before a negative (leading zeros and -0 are read)". Assumes nothing.
use Rattle.std.specs.Prelude.{ℕ, zero, suc, ◌+◌, ◌-◌, ◌*◌, ◌/◌, ◌%◌, Bool, true, false, cond, ◌&&◌, List, [], ◌∷◌, ◌++◌, leb, ltb, eqb, Option, Some, None, ℤ, pos, neg_ℤ, nat_abs}
use Rattle.std.specs.Int.Signed.{lt_z}

-- ════ the bytes of digits and of a sign; the longest and the largest number of 64 bits
abbrev pub zero_digit : ℕ
zero_digit = 48

abbrev pub nine_digit : ℕ
nine_digit = 57

abbrev pub minus_sign : ℕ
minus_sign = 45

abbrev pub most_digits : ℕ
most_digits = 20

-- 2 ^ 63 - 1, and the size of -2 ^ 63
abbrev pub most_positive : ℕ
most_positive = 9223372036854775807

abbrev pub most_negative : ℕ
most_negative = 9223372036854775808

-- `0` to `9`
abbrev pub is_digit : ℕ → Bool
is_digit c = leb zero_digit c && leb c nine_digit

unfoldable pub all_digits : List ℕ → Bool
all_digits [] = true
all_digits (c ∷ cs) = is_digit c && all_digits cs

-- one digit or more, and nothing else
unfoldable pub is_decimal : List ℕ → Bool
is_decimal [] = false
is_decimal (c ∷ cs) = all_digits (c ∷ cs)

-- the value of digits, after those that gave n
unfoldable pub value_after : ℕ → List ℕ → ℕ
value_after n [] = n
value_after n (c ∷ cs) = value_after (n * 10 + (c - zero_digit)) cs

abbrev pub value_of : List ℕ → ℕ
value_of ds = value_after 0 ds

abbrev pub minus : ℕ → ℤ
minus n = neg_ℤ (pos n)

-- digits with a sign, where their value is at most `most`
unfoldable pub signed_of : (ℕ → ℤ) → ℕ → List ℕ → Option ℤ
signed_of sign most ds = cond (is_decimal ds && leb (value_of ds) most) (Some (sign (value_of ds))) None

-- what a field says: a `-` and digits, or digits; "a number beyond signed 64 bits" is none
unfoldable pub number_in : List ℕ → Option ℤ
number_in [] = None
number_in (c ∷ cs) = cond (eqb c minus_sign) (signed_of minus most_negative cs) (signed_of pos most_positive (c ∷ cs))

-- ════ numbers written
-- the decimal digits of n, without leading zeros, where n is below 10 ^ k
unfoldable pub decimal_in : ℕ → ℕ → List ℕ
decimal_in zero n = []
decimal_in (suc k) n = cond (ltb n 10) ((zero_digit + n) ∷ []) (decimal_in k (n / 10) ++ ((zero_digit + n % 10) ∷ []))

-- a 64-bit number in decimal: its size is below 10 ^ 20
unfoldable pub decimal : ℤ → List ℕ
decimal v = cond (lt_z v (pos 0)) (minus_sign ∷ decimal_in most_digits (nat_abs v)) (decimal_in most_digits (nat_abs v))
