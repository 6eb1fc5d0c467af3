-- The definitions at a few texts. `32` is a blank, `45` a `-`, `43` a `+`, `48` to `57` are digits, `10` is an LF. Assumes nothing.
use Rattle.std.specs.Prelude.{◌≡◌, refl, Some, None, List, [], ◌∷◌, ℕ, pos, negsuc}
use Rattle.text.specs.Numbers.{all_digits, is_decimal, value_after, signed_of, number_in, decimal_in, decimal}
use Rattle.text.specs.Fields.{fields_of}
use Rattle.text.specs.Lines.{lines_of, lines_after, kept, keep, came, came_all, nothing_held}

-- `007`, `-0`, `-12`
zeros_read : number_in (48 ∷ 48 ∷ 55 ∷ []) ≡ Some (pos 7)
unfolding number_in signed_of is_decimal all_digits value_after
zeros_read = refl

minus_zero_read : number_in (45 ∷ 48 ∷ []) ≡ Some (pos 0)
unfolding number_in signed_of is_decimal all_digits value_after
minus_zero_read = refl

negative_read : number_in (45 ∷ 49 ∷ 50 ∷ []) ≡ Some (negsuc 11)
unfolding number_in signed_of is_decimal all_digits value_after
negative_read = refl

-- `+1`, ``, `-`, `1x`
plus_wrong : number_in (43 ∷ 49 ∷ []) ≡ None
unfolding number_in signed_of is_decimal all_digits value_after
plus_wrong = refl

empty_wrong : number_in [] ≡ None
unfolding number_in
empty_wrong = refl

sign_wrong : number_in (45 ∷ []) ≡ None
unfolding number_in signed_of is_decimal all_digits value_after
sign_wrong = refl

letter_wrong : number_in (49 ∷ 120 ∷ []) ≡ None
unfolding number_in signed_of is_decimal all_digits value_after
letter_wrong = refl

-- `-9223372036854775808` is read, `9223372036854775808` is not
least : List ℕ
least = 57 ∷ 50 ∷ 50 ∷ 51 ∷ 51 ∷ 55 ∷ 50 ∷ 48 ∷ 51 ∷ 54 ∷ 56 ∷ 53 ∷ 52 ∷ 55 ∷ 55 ∷ 53 ∷ 56 ∷ 48 ∷ 56 ∷ []

least_read : number_in (45 ∷ least) ≡ Some (negsuc 9223372036854775807)
unfolding number_in signed_of is_decimal all_digits value_after least
least_read = refl

beyond_wrong : number_in least ≡ None
unfolding number_in signed_of is_decimal all_digits value_after least
beyond_wrong = refl

-- `-120`
written : decimal (negsuc 119) ≡ 45 ∷ 49 ∷ 50 ∷ 48 ∷ []
unfolding decimal decimal_in
written = refl

-- `1  2` has an empty field between
two_blanks : fields_of (49 ∷ 32 ∷ 32 ∷ 50 ∷ []) ≡ (49 ∷ []) ∷ [] ∷ (50 ∷ []) ∷ []
unfolding fields_of
two_blanks = refl

-- the lines of `a`, LF, LF, `b`: an empty one in the middle, and the last without its LF
three-lines : lines_of (97 ∷ 10 ∷ 10 ∷ 98 ∷ []) ≡ (97 ∷ []) ∷ [] ∷ (98 ∷ []) ∷ []
unfolding lines_after
three-lines = refl

-- of `abc` two bytes are kept, with the mark, also where the chunk ends within it
cut_line : came_all 2 nothing_held ((97 ∷ []) ∷ (98 ∷ 99 ∷ 10 ∷ []) ∷ []) ≡ record { ended = kept 2 (97 ∷ 98 ∷ 99 ∷ []) ∷ []; going = nothing_held }
unfolding came_all came keep
cut_line = refl
