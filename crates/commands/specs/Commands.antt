-- A line to a command, in the words of document 01's "The night print". Assumes nothing.
use Rattle.std.specs.Prelude.{◌≡◌, ℕ, suc, ◌*◌, Bool, cond, false, List, [], ◌∷◌, ltb, eqb, Option, Some, None, length, get_or, ℤ, pos}
use Rattle.words.specs.Signed.{eq_z}
use Rattle.network.specs.Records.{baseline_of, height_of, position_of}
use Rattle.network.specs.declared.Kind.{Kind}
use Rattle.network.specs.declared.Kind.TheVariants as kind
use Rattle.book.specs.declared.Change.TheVariants.{Enter, Strike}
use Rattle.book.specs.declared.Call.TheVariants.{Edit, Undo}
use Rattle.text.specs.Numbers.{number_in}
use Rattle.text.specs.Fields.{first_field, rest_fields, letter_of, FieldNumbers, numbers, unreadable, numbers_in, at_most, stored_in}
use Rattle.text.specs.Lines.{KeptLine}
use Rattle.commands.specs.declared.Entry.{Entry}
use Rattle.commands.specs.declared.Command.{Command}
use Rattle.commands.specs.declared.Command.TheVariants.{Station, Call, Corrections, Matrix, Unreadable}

-- ════ the letters of lines and of station kinds, as bytes
abbrev pub letter_S : ℕ
letter_S = 83

abbrev pub letter_H : ℕ
letter_H = 72

abbrev pub letter_B : ℕ
letter_B = 66

abbrev pub letter_P : ℕ
letter_P = 80

abbrev pub letter_R : ℕ
letter_R = 82

abbrev pub letter_D : ℕ
letter_D = 68

abbrev pub letter_U : ℕ
letter_U = 85

abbrev pub letter_X : ℕ
letter_X = 88

abbrev pub letter_M : ℕ
letter_M = 77

abbrev pub letter_K : ℕ
letter_K = 75

abbrev pub letter_F : ℕ
letter_F = 70

abbrev pub letter_V : ℕ
letter_V = 86

-- "over 50,000 bytes makes a line unreadable"
abbrev pub longest_line : ℕ
longest_line = 50000

-- ════ numbers
-- "A wrong number of fields … makes a line unreadable": f of just k numbers, counted from 0; else `other`
unfoldable pub exactly : {A : Type 0} → ℕ → A → ((ℕ → ℤ) → A) → FieldNumbers → A
exactly k other f unreadable = other
exactly k other f (numbers vs) = cond (eqb (length vs) k) (f (λ i. get_or vs i (pos 0))) other

-- the same of just k numbers, as they stand
unfoldable pub just : ℕ → FieldNumbers → Option (List ℤ)
just k unreadable = None
just k (numbers vs) = cond (eqb (length vs) k) (Some vs) None

-- ════ H, B and P
-- "H: place, from, to, difference, weight"
abbrev pub level_entry : (ℕ → ℤ) → Option Entry
level_entry v = Some (record { place = v 0; of = height_of (v 1) (v 2) (v 3) (v 4) })

-- "B: place, from, to, three differences, weights EE EN EU NN NU UU", with antenna heights
abbrev pub baseline_entry : List ℤ → (ℕ → ℤ) → Option Entry
baseline_entry heights v = Some (record { place = v 0; of = baseline_of (v 1) (v 2) (v 3 ∷ v 4 ∷ v 5 ∷ []) (v 6 ∷ v 7 ∷ v 8 ∷ v 9 ∷ v 10 ∷ v 11 ∷ []) heights })

-- document 02, request 4: "The heights end a B line, from first; lines without them mean zero". So a B line has 12 numbers or 14
abbrev pub without_heights : (ℕ → ℤ) → Option Entry
without_heights = baseline_entry (pos 0 ∷ pos 0 ∷ [])

abbrev pub with_heights : (ℕ → ℤ) → Option Entry
with_heights v = baseline_entry (v 12 ∷ v 13 ∷ []) v

abbrev pub baseline_line : FieldNumbers → Option Entry
baseline_line ns = exactly 12 (exactly 14 None with_heights ns) without_heights ns

-- document 02, request 5: "Its line is P …: place, station, coordinates, weights"
abbrev pub position_entry : (ℕ → ℤ) → Option Entry
position_entry v = Some (record { place = v 0; of = position_of (v 1) (v 2 ∷ v 3 ∷ v 4 ∷ []) (v 5 ∷ v 6 ∷ v 7 ∷ v 8 ∷ v 9 ∷ v 10 ∷ []) })

-- the fields after the letter
unfoldable pub entry_of : ℕ → List (List ℕ) → Option Entry
entry_of letter fields =
    cond (eqb letter letter_H) (exactly 5 None level_entry (numbers_in fields))
    (cond (eqb letter letter_B) (baseline_line (numbers_in fields))
    (cond (eqb letter letter_P) (exactly 11 None position_entry (numbers_in fields)) None))

-- H, B or P enters (document 02, request 3: "One "enter" fills or overwrites")
unfoldable pub entered : Option Entry → Command
entered (Some e) = Call (Edit e.place (Enter e.of))
entered None = Unreadable

-- "A line's R then changes nothing", and P is "with or without R before it": the fields after an R are an H, B or P and what comes with it, and enter too
unfoldable pub after_r : List (List ℕ) → Command
after_r [] = Unreadable
after_r (f ∷ fs) = entered (entry_of (letter_of f) fs)

-- ════ D, U, X and M
-- "D and a place strikes"
abbrev pub strike_of : (ℕ → ℤ) → Command
strike_of v = Call (Edit (v 0) Strike)

-- "U undoes"
unfoldable pub undo_of : List (List ℕ) → Command
undo_of [] = Call Undo
undo_of (f ∷ fs) = Unreadable

-- "X gives the corrections, M the matrix by rows": how many there are, where they are readable
unfoldable pub counted_as : (ℕ → Command) → FieldNumbers → Command
counted_as make unreadable = Unreadable
counted_as make (numbers vs) = make (length vs)

-- "over 48 numbers for X or 2,304 for M … makes a line unreadable"
abbrev pub most_corrections : ℕ
most_corrections = 48

abbrev pub most_entries : ℕ
most_entries = most_corrections * most_corrections

abbrev pub corrections_in : List (List ℕ) → FieldNumbers
corrections_in fields = at_most most_corrections (numbers_in fields)

abbrev pub matrix_in : List (List ℕ) → FieldNumbers
matrix_in fields = at_most most_entries (numbers_in fields)

-- ════ S: "(K known, F free, V height …)", number, kind and coordinates
abbrev pub station_with : Kind → (ℕ → ℤ) → Command
station_with k v = Station (record { kind = k; east = v 0; north = v 1; up = v 2 })

-- "of another kind letter is unreadable"
unfoldable pub station_of_kind : ℕ → FieldNumbers → Command
station_of_kind letter ns =
    cond (eqb letter letter_K) (exactly 3 Unreadable (station_with kind.Known) ns)
    (cond (eqb letter letter_F) (exactly 3 Unreadable (station_with kind.Free) ns)
    (cond (eqb letter letter_V) (exactly 3 Unreadable (station_with kind.Height) ns) Unreadable))

-- "not numbered in turn from 1": the number is one more than there were S lines read
unfoldable pub numbered_in_turn : ℕ → Option ℤ → Bool
numbered_in_turn read None = false
numbered_in_turn read (Some v) = eq_z v (pos (suc read))

unfoldable pub station_of : ℕ → List (List ℕ) → Command
station_of read [] = Unreadable
station_of read (n ∷ []) = Unreadable
station_of read (n ∷ k ∷ fs) = cond (numbered_in_turn read (number_in n)) (station_of_kind (letter_of k) (numbers_in fs)) Unreadable

-- ════ a line
-- what the first field's letter asks of the others
unfoldable pub other_of : ℕ → List (List ℕ) → Command
other_of letter fields =
    cond (eqb letter letter_R) (after_r fields)
    (cond (eqb letter letter_D) (exactly 1 Unreadable strike_of (numbers_in fields))
    (cond (eqb letter letter_U) (undo_of fields) (entered (entry_of letter fields))))

-- "An S line later … is unreadable": `unopened` while the station list may go on
unfoldable pub fields_command : ℕ → Bool → ℕ → List (List ℕ) → Command
fields_command read unopened letter fields =
    cond (eqb letter letter_S) (cond unopened (station_of read fields) Unreadable)
    (cond (eqb letter letter_X) (counted_as Corrections (corrections_in fields))
    (cond (eqb letter letter_M) (counted_as Matrix (matrix_in fields)) (other_of letter fields)))

abbrev pub letter_in : List ℕ → ℕ
letter_in line = letter_of (first_field line)

-- the command of a line, after so many S lines that were read
unfoldable pub command_of : ℕ → Bool → List ℕ → Command
command_of read unopened line =
    cond (ltb longest_line (length line)) Unreadable (fields_command read unopened (letter_in line) (rest_fields line))

-- "S lines come first; the first line whose first field isn't S, or the end, opens"
abbrev pub is_station_line : List ℕ → Bool
is_station_line line = eqb (letter_in line) letter_S

-- ════ the same of what is kept of a line, and the numbers that X and M leave
unfoldable pub kept_command : ℕ → Bool → KeptLine → Command
kept_command read unopened k = cond k.over Unreadable (fields_command read unopened (letter_in k.text) (rest_fields k.text))

-- "a later one replaces an earlier", from the front; an unreadable line leaves them
unfoldable pub corrections_after : List ℤ → KeptLine → List ℤ
corrections_after x k = cond k.over x (cond (eqb (letter_in k.text) letter_X) (stored_in x (corrections_in (rest_fields k.text))) x)

unfoldable pub matrix_after : List ℤ → KeptLine → List ℤ
matrix_after m k = cond k.over m (cond (eqb (letter_in k.text) letter_M) (stored_in m (matrix_in (rest_fields k.text))) m)

-- what a line asked, and what it left of the corrections and the matrix
pub record Obeys (read : ℕ) (unopened : Bool) (k : KeptLine) (x m : List ℤ) (r : Command) (xs ms : List ℤ) : Type 0 where
  pub asks : r ≡ kept_command read unopened k
  pub corrections : xs ≡ corrections_after x k
  pub matrix : ms ≡ matrix_after m k
