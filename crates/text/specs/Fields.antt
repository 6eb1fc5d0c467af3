-- The fields of a line: "Fields are parted by one blank". Assumes nothing.
use Rattle.std.specs.Prelude.{◌≡◌, ℕ, cond, List, [], ◌∷◌, leb, eqb, Option, Some, None, length, ℤ}
use Rattle.std.proofs.lemmas.List.Edits.{sets}
use Rattle.text.specs.Before.{before}
use Rattle.text.specs.Numbers.{number_in}

-- a byte before the first field
abbrev pub onto : ℕ → List (List ℕ) → List (List ℕ)
onto c [] = []
onto c (f ∷ fs) = (c ∷ f) ∷ fs

-- the blank that parts two fields
abbrev pub space : ℕ
space = 32

-- each blank parts two fields: two blanks in a row have an empty field between them, and an empty line is one empty field
unfoldable pub fields_of : List ℕ → List (List ℕ)
fields_of [] = [] ∷ []
fields_of (c ∷ cs) = cond (eqb c space) ([] ∷ fields_of cs) (onto c (fields_of cs))

-- what stands before the first blank
abbrev pub first_field : List ℕ → List ℕ
first_field l = before space l

-- the fields after the first
unfoldable pub rest_fields : List ℕ → List (List ℕ)
rest_fields [] = []
rest_fields (c ∷ cs) = cond (eqb c space) (fields_of cs) (rest_fields cs)

-- the one byte of a field, 0 where it has none or more
unfoldable pub letter_of : List ℕ → ℕ
letter_of [] = 0
letter_of (c ∷ []) = c
letter_of (c ∷ d ∷ cs) = 0

-- the same, where it has one
unfoldable pub only_byte : List ℕ → Option ℕ
only_byte [] = None
only_byte (c ∷ []) = Some c
only_byte (c ∷ d ∷ cs) = None

-- ════ fields that are numbers
-- all the numbers, or that there is a field that is none
pub data FieldNumbers : Type 0 where
  numbers : List ℤ → FieldNumbers
  unreadable : FieldNumbers

-- a number in front of those
abbrev pub with_number : Option ℤ → FieldNumbers → FieldNumbers
with_number None ns = unreadable
with_number (Some v) unreadable = unreadable
with_number (Some v) (numbers vs) = numbers (v ∷ vs)

unfoldable pub numbers_in : List (List ℕ) → FieldNumbers
numbers_in [] = numbers []
numbers_in (f ∷ fs) = with_number (number_in f) (numbers_in fs)

-- no more than `most` of them
unfoldable pub at_most : ℕ → FieldNumbers → FieldNumbers
at_most most unreadable = unreadable
at_most most (numbers vs) = cond (leb (length vs) most) (numbers vs) unreadable

-- how many there are
unfoldable pub count_of : FieldNumbers → Option ℕ
count_of unreadable = None
count_of (numbers vs) = Some (length vs)

-- a list with them at its front; as it was where they are unreadable
unfoldable pub stored_in : List ℤ → FieldNumbers → List ℤ
stored_in out unreadable = out
stored_in out (numbers vs) = sets out 0 vs

-- numbers read into `out`, which leaves `after`, and counted
pub record Stored (out : List ℤ) (ns : FieldNumbers) (r : Option ℕ) (after : List ℤ) : Type 0 where
  pub counts : r ≡ count_of ns
  pub stores : after ≡ stored_in out ns
