-- "A line's R then changes nothing": an H, B or P line asks the same with an R and a blank before it, as long as it is then no longer than a line may be;
-- before any other line an R is unreadable. Assumes nothing.
use Rattle.std.specs.Prelude.{ℕ, ◌+◌, ◌≤◌, ◌≡◌, refl, Bool, List, ◌∷◌, ◌⊎◌, length}
use Rattle.std.proofs.Common.{sym, ◌∙◌, inl, inr, arith, lt-ltb, le-ltb, ne_eqb}
use Rattle.std.proofs.Math.Path.{ap}
use Rattle.std.proofs.Math.Bool.{cond}
use Rattle.std.proofs.Math.Decide.{dec_le}
use Rattle.text.specs.Before.{before}
use Rattle.text.specs.Fields.{space, fields_of, rest_fields, letter_of}
use Rattle.text.specs.FieldLaws.{first_and_rest}
use Rattle.commands.specs.declared.Command.TheVariants.{Unreadable}
use Rattle.commands.specs.Commands.{letter_H, letter_B, letter_P, letter_R, longest_line, entry_of, entered, after_r, other_of, fields_command, letter_in, command_of}

-- the line with R and a blank before it
abbrev pub with_r : List ℕ → List ℕ
with_r line = letter_R ∷ space ∷ line

-- the letter of a line that enters a record
abbrev pub RecordLetter : ℕ → Type 0
RecordLetter letter = (letter ≡ letter_H) ⊎ (letter ≡ letter_B) ⊎ (letter ≡ letter_P)

module _ (read : ℕ) (unopened : Bool) (line : List ℕ) (short : length line + 2 ≤ longest_line) where
  -- what the fields after the R give
  with_R : command_of read unopened (with_r line) ≡ entered (entry_of (letter_in line) (rest_fields line))
  unfolding command_of fields_command other_of after_r letter_of rest_fields fields_of before
  with_R =
      ap (λ (t : Bool). cond t Unreadable (after_r (fields_of line))) (le-ltb longest_line (length (with_r line)) (omega arith))
      ∙ ap after_r (first_and_rest line)

  -- what they give alone
  without_R : (letter : ℕ) → letter_in line ≡ letter → RecordLetter letter → command_of read unopened line ≡ entered (entry_of (letter_in line) (rest_fields line))
  unfolding command_of fields_command other_of
  without_R letter is (inl h) = rw (le-ltb longest_line (length line) (omega arith), is, h)
  without_R letter is (inr (inl b)) = rw (le-ltb longest_line (length line) (omega arith), is, b)
  without_R letter is (inr (inr p)) = rw (le-ltb longest_line (length line) (omega arith), is, p)

  pub R_changes_nothing : RecordLetter (letter_in line) → command_of read unopened (with_r line) ≡ command_of read unopened line
  R_changes_nothing which = with_R ∙ sym (without_R (letter_in line) refl which)

pub R-before_others : (read : ℕ) (unopened : Bool) (line : List ℕ) → (RecordLetter (letter_in line) → ⊥) → command_of read unopened (with_r line) ≡ Unreadable
unfolding entry_of entered command_of
R-before_others read unopened line other = by (dec_le (length line + 2) longest_line)
  where
    by : Dec (length line + 2 ≤ longest_line) → command_of read unopened (with_r line) ≡ Unreadable
    by (yes short) =
        with_R read unopened line short
        ∙ rw (ne_eqb (letter_in line) letter_H (λ h. other (inl h)), ne_eqb (letter_in line) letter_B (λ b. other (inr (inl b))), ne_eqb (letter_in line) letter_P (λ p. other (inr (inr p))))
    by (no long) = ap (λ (t : Bool). cond t Unreadable (fields_command read unopened (letter_in (with_r line)) (rest_fields (with_r line)))) (lt-ltb longest_line (length (with_r line)) (omega arith))
