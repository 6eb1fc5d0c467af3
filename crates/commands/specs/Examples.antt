-- What single lines ask. What document 01's own lines print is proved in crate test_whole_texts. Assumes nothing.
use Rattle.std.specs.Prelude.{◌≡◌, refl, true, false, List, [], ◌∷◌, ℕ, ℤ, pos}
use Rattle.network.specs.declared.Kind.TheVariants as kind
use Rattle.network.specs.declared.Record.TheVariants as record_of
use Rattle.book.specs.declared.Change.TheVariants.{Enter, Strike}
use Rattle.book.specs.declared.Call.TheVariants.{Edit, Undo}
use Rattle.text.specs.Before.{before}
use Rattle.text.specs.Numbers.{all_digits, is_decimal, value_after, signed_of, number_in}
use Rattle.text.specs.Fields.{fields_of, rest_fields, letter_of, numbers_in, at_most}
use Rattle.commands.specs.Commands.{exactly, entry_of, entered, after_r, undo_of, counted_as, station_of_kind, numbered_in_turn, station_of, other_of, fields_command, command_of}
use Rattle.commands.specs.declared.Command.{Command}
use Rattle.commands.specs.declared.Command.TheVariants.{Station, Call, Corrections, Unreadable}

-- `S 2 V 0 0 7`, after one S line
station : command_of 1 true (83 ∷ 32 ∷ 50 ∷ 32 ∷ 86 ∷ 32 ∷ 48 ∷ 32 ∷ 48 ∷ 32 ∷ 55 ∷ []) ≡ Station (record { kind = kind.Height; east = pos 0; north = pos 0; up = pos 7 })
unfolding command_of fields_command station_of numbered_in_turn station_of_kind exactly letter_of rest_fields fields_of before numbers_in number_in signed_of is_decimal all_digits value_after
station = refl

-- the same line as the first, and once the book is open
out_of_turn : command_of 0 true (83 ∷ 32 ∷ 50 ∷ 32 ∷ 86 ∷ 32 ∷ 48 ∷ 32 ∷ 48 ∷ 32 ∷ 55 ∷ []) ≡ Unreadable
unfolding command_of fields_command station_of numbered_in_turn station_of_kind exactly letter_of rest_fields fields_of before numbers_in number_in signed_of is_decimal all_digits value_after
out_of_turn = refl

late : command_of 1 false (83 ∷ 32 ∷ 50 ∷ 32 ∷ 86 ∷ 32 ∷ 48 ∷ 32 ∷ 48 ∷ 32 ∷ 55 ∷ []) ≡ Unreadable
unfolding command_of fields_command station_of numbered_in_turn station_of_kind exactly letter_of rest_fields fields_of before numbers_in number_in signed_of is_decimal all_digits value_after
late = refl

-- `H 1 1 2 9 3`; `R` before it changes nothing
level_line : List ℕ
level_line = 72 ∷ 32 ∷ 49 ∷ 32 ∷ 49 ∷ 32 ∷ 50 ∷ 32 ∷ 57 ∷ 32 ∷ 51 ∷ []

enters : command_of 2 false level_line ≡ Call (Edit (pos 1) (Enter (record_of.Height (record { from = pos 1; to = pos 2; up = pos 9; weight = pos 3 }))))
unfolding level_line command_of fields_command other_of entered entry_of exactly letter_of rest_fields fields_of before numbers_in number_in signed_of is_decimal all_digits value_after
enters = refl

enters-after-R : command_of 2 false (82 ∷ 32 ∷ level_line) ≡ Call (Edit (pos 1) (Enter (record_of.Height (record { from = pos 1; to = pos 2; up = pos 9; weight = pos 3 }))))
unfolding level_line command_of fields_command other_of after_r entered entry_of exactly letter_of rest_fields fields_of before numbers_in number_in signed_of is_decimal all_digits value_after
enters-after-R = refl

-- `B 1 1 2 3 4 5 6 7 8 9 1 2`, without antenna heights; with `7 8`, those heights; with `7` alone
baseline_line_lem : List ℕ → List ℕ
baseline_line_lem heights =
    66 ∷ 32 ∷ 49 ∷ 32 ∷ 49 ∷ 32 ∷ 50 ∷ 32 ∷ 51 ∷ 32 ∷ 52 ∷ 32 ∷ 53 ∷ 32 ∷ 54 ∷ 32 ∷ 55 ∷ 32 ∷ 56 ∷ 32 ∷ 57 ∷ 32 ∷ 49 ∷ 32 ∷ 50 ∷ heights

baseline : ℤ → ℤ → Command
baseline hf ht =
    Call (Edit (pos 1) (Enter (record_of.Baseline (record { from = pos 1; to = pos 2; east = pos 3; north = pos 4; up = pos 5; ee = pos 6; en = pos 7; eu = pos 8; nn = pos 9; nu = pos 1; uu = pos 2; hf = hf; ht = ht }))))

from_mark-to-mark : command_of 2 false (baseline_line_lem []) ≡ baseline (pos 0) (pos 0)
unfolding baseline_line_lem baseline command_of fields_command other_of entered entry_of exactly letter_of rest_fields fields_of before numbers_in number_in signed_of is_decimal all_digits value_after
from_mark-to-mark = refl

from_antenna_to_antenna : command_of 2 false (baseline_line_lem (32 ∷ 55 ∷ 32 ∷ 56 ∷ [])) ≡ baseline (pos 7) (pos 8)
unfolding baseline_line_lem baseline command_of fields_command other_of entered entry_of exactly letter_of rest_fields fields_of before numbers_in number_in signed_of is_decimal all_digits value_after
from_antenna_to_antenna = refl

one_height_alone : command_of 2 false (baseline_line_lem (32 ∷ 55 ∷ [])) ≡ Unreadable
unfolding baseline_line_lem command_of fields_command other_of entered entry_of exactly letter_of rest_fields fields_of before numbers_in number_in signed_of is_decimal all_digits value_after
one_height_alone = refl

-- `P 1 2 3 4 5 6 7 8 9 1 2`, with `R` before it or not; with a number more
position_line : List ℕ → List ℕ
position_line more =
    80 ∷ 32 ∷ 49 ∷ 32 ∷ 50 ∷ 32 ∷ 51 ∷ 32 ∷ 52 ∷ 32 ∷ 53 ∷ 32 ∷ 54 ∷ 32 ∷ 55 ∷ 32 ∷ 56 ∷ 32 ∷ 57 ∷ 32 ∷ 49 ∷ 32 ∷ 50 ∷ more

position : Command
position =
    Call (Edit (pos 1) (Enter (record_of.Position (record { station = pos 2; east = pos 3; north = pos 4; up = pos 5; ee = pos 6; en = pos 7; eu = pos 8; nn = pos 9; nu = pos 1; uu = pos 2 }))))

enters-position : command_of 2 false (position_line []) ≡ position
unfolding position_line position command_of fields_command other_of entered entry_of exactly letter_of rest_fields fields_of before numbers_in number_in signed_of is_decimal all_digits value_after
enters-position = refl

enters-position-after-R : command_of 2 false (82 ∷ 32 ∷ position_line []) ≡ position
unfolding position_line position command_of fields_command other_of after_r entered entry_of exactly letter_of rest_fields fields_of before numbers_in number_in signed_of is_decimal all_digits value_after
enters-position-after-R = refl

one-number-more : command_of 2 false (position_line (32 ∷ 55 ∷ [])) ≡ Unreadable
unfolding position_line command_of fields_command other_of entered entry_of exactly letter_of rest_fields fields_of before numbers_in number_in signed_of is_decimal all_digits value_after
one-number-more = refl

-- `D 7`, `U`, `R D 7`, `R U`, `U `
strikes : command_of 2 false (68 ∷ 32 ∷ 55 ∷ []) ≡ Call (Edit (pos 7) Strike)
unfolding command_of fields_command other_of exactly letter_of rest_fields fields_of before numbers_in number_in signed_of is_decimal all_digits value_after
strikes = refl

undoes : command_of 2 false (85 ∷ []) ≡ Call Undo
unfolding command_of fields_command other_of undo_of letter_of rest_fields fields_of before
undoes = refl

no_strike_after-R : command_of 2 false (82 ∷ 32 ∷ 68 ∷ 32 ∷ 55 ∷ []) ≡ Unreadable
unfolding command_of fields_command other_of after_r entered entry_of letter_of rest_fields fields_of before
no_strike_after-R = refl

no_undo_after-R : command_of 2 false (82 ∷ 32 ∷ 85 ∷ []) ≡ Unreadable
unfolding command_of fields_command other_of after_r entered entry_of letter_of rest_fields fields_of before
no_undo_after-R = refl

no_more-fields : command_of 2 false (85 ∷ 32 ∷ []) ≡ Unreadable
unfolding command_of fields_command other_of undo_of letter_of rest_fields fields_of before
no_more-fields = refl

-- `X 50`, `X`, `X `, an empty line
one-correction : command_of 2 false (88 ∷ 32 ∷ 53 ∷ 48 ∷ []) ≡ Corrections 1
unfolding command_of fields_command counted_as at_most letter_of rest_fields fields_of before numbers_in number_in signed_of is_decimal all_digits value_after
one-correction = refl

no_corrections : command_of 2 false (88 ∷ []) ≡ Corrections 0
unfolding command_of fields_command counted_as at_most letter_of rest_fields fields_of before numbers_in
no_corrections = refl

empty_correction : command_of 2 false (88 ∷ 32 ∷ []) ≡ Unreadable
unfolding command_of fields_command counted_as at_most letter_of rest_fields fields_of before numbers_in number_in
empty_correction = refl

empty_line : command_of 2 false [] ≡ Unreadable
unfolding command_of fields_command other_of entered entry_of letter_of rest_fields fields_of before
empty_line = refl
