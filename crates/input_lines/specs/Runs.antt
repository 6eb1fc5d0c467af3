-- The run of an input, line by line: document 01's "The night print". Assumes nothing.
use Rattle.std.specs.Prelude.{ℕ, suc, ◌+◌, ◌*◌, Bool, true, false, cond, List, [], ◌∷◌, ◌++◌, eqb, leb, length, ℤ}
use Rattle.network.specs.StationWords.{station_words}
use Rattle.network.specs.declared.Station as station
use Rattle.book.specs.declared.Book.{Book}
use Rattle.book.specs.Outcome.{Outcome}
use Rattle.book.specs.Book.{opening, outcome}
use Rattle.text.specs.Fields.{rest_fields, FieldNumbers, numbers, unreadable}
use Rattle.text.specs.Lines.{KeptLine}
use Rattle.commands.specs.declared.Command.{Command}
use Rattle.commands.specs.declared.Command.TheVariants.{Station, Call, Corrections, Matrix, Unreadable}
use Rattle.commands.specs.Commands.{corrections_in, matrix_in, is_station_line, kept_command}
use Rattle.commands.specs.Brings.{brings, corrections, matrix}
use Rattle.printing.specs.Messages.{refused_line, unreadable_line, refused_text}

-- ════ the state of a run
-- "S lines come first"; then a book, unless its opening was refused, which "ends"
pub data Phase : Type 0 where
  unopened : Phase
  opened : Book → Phase
  ended : Phase

-- the numbers of the latest readable X line, or M line, where there was one
pub data Given : Type 0 where
  none : Given
  given : List ℤ → Given

pub record Run : Type 0 where
  -- of the stations read so far, four each: kind, E, N, U
  pub words : List ℤ
  -- how many S lines were read
  pub read : ℕ
  -- how many lines there were
  pub lines : ℕ
  pub phase : Phase
  pub corrections : Given
  pub matrix : Given

-- a line's number is one of 64 bits: at most 2 ^ 64 - 1
abbrev pub most_lines : ℕ
most_lines = 18446744073709551615

abbrev pub start : Run
start = record { words = []; read = 0; lines = 0; phase = unopened; corrections = none; matrix = none }

-- ════ stations
-- the words of 33 stations are kept, four each: more than 32 stations are refused, whatever they are (Cut, opening-cut)
abbrev pub list_room : ℕ
list_room = 33 * 4

unfoldable pub noted : List ℤ → station.Station → List ℤ
noted words s = cond (leb (length words + 4) list_room) (words ++ station_words s) words

-- ════ the opening
abbrev pub phase_with : Outcome → Phase
phase_with e = cond (eqb e.refusal 0) (opened e.book) ended

unfoldable pub phase_opened : List ℤ → Phase → Phase
phase_opened words unopened = phase_with (opening words)
phase_opened words (opened b) = opened b
phase_opened words ended = ended

-- "A refused opening … prints `REFUSED no` … and ends"
abbrev pub opening_answer : ℕ → List ℕ
opening_answer number = cond (eqb number 0) [] (refused_text number)

unfoldable pub opening_says : List ℤ → Phase → List ℕ
opening_says words unopened = opening_answer (opening words).refusal
opening_says words (opened b) = []
opening_says words ended = []

abbrev pub open_run : Run → Run
open_run r =
    record {
      words = r.words;
      read = r.read;
      lines = r.lines;
      phase = phase_opened r.words r.phase;
      corrections = r.corrections;
      matrix = r.matrix;
    }

-- "the first line whose first field isn't S, or the end, opens": the run in which a line is read, and what is printed before it is
unfoldable pub before_line : Run → List ℕ → Run
before_line r line = cond (is_station_line line) r (open_run r)

unfoldable pub before_line_says : Run → List ℕ → List ℕ
before_line_says r line = cond (is_station_line line) [] (opening_says r.words r.phase)

-- ════ what a line asks, and what that leaves
unfoldable pub is_unopened : Phase → Bool
is_unopened unopened = true
is_unopened (opened b) = false
is_unopened ended = false

abbrev pub asked : Run → KeptLine → Command
asked r k = kept_command r.read (is_unopened r.phase) k

unfoldable pub words_after : List ℤ → Command → List ℤ
words_after words (Station s) = noted words s
words_after words (Call c) = words
words_after words (Corrections n) = words
words_after words (Matrix n) = words
words_after words Unreadable = words

unfoldable pub read_after : ℕ → Command → ℕ
read_after n (Station s) = suc n
read_after n (Call c) = n
read_after n (Corrections k) = n
read_after n (Matrix k) = n
read_after n Unreadable = n

-- H, B or P enters; "D and a place strikes; U undoes": the number of the refusal, or 0, and the book
abbrev pub unedited : Book → Outcome
unedited b = record { refusal = 0; book = b }

unfoldable pub edits : Book → Command → Outcome
edits b (Station s) = unedited b
edits b (Call c) = outcome b c
edits b (Corrections n) = unedited b
edits b (Matrix n) = unedited b
edits b Unreadable = unedited b

unfoldable pub phase_after : Phase → Command → Phase
phase_after unopened c = unopened
phase_after (opened b) c = opened (edits b c).book
phase_after ended c = ended

-- "X gives the corrections, M the matrix by rows; … a later one replaces an earlier"; an unreadable one changes nothing
unfoldable pub given_by : FieldNumbers → Given
given_by unreadable = none
given_by (numbers vs) = given vs

abbrev pub corrections_next : Given → List (List ℕ) → Command → Given
corrections_next g fields c = cond (brings c corrections) (given_by (corrections_in fields)) g

abbrev pub matrix_next : Given → List (List ℕ) → Command → Given
matrix_next g fields c = cond (brings c matrix) (given_by (matrix_in fields)) g

-- ════ what a line prints
-- "A refused edit prints `LINE k REFUSED no`, k from 1; any other line `LINE k UNREADABLE`"
abbrev pub refused_says : ℕ → ℕ → List ℕ
refused_says k number = cond (eqb number 0) [] (refused_line k number)

unfoldable pub command_says : ℕ → ℕ → Command → List ℕ
command_says k number (Station s) = refused_says k number
command_says k number (Call c) = refused_says k number
command_says k number (Corrections n) = refused_says k number
command_says k number (Matrix n) = refused_says k number
command_says k number Unreadable = unreadable_line k

-- after a refused opening a line prints nothing
unfoldable pub phase_says : Phase → ℕ → Command → List ℕ
phase_says unopened k c = command_says k 0 c
phase_says (opened b) k c = command_says k (edits b c).refusal c
phase_says ended k c = []

-- ════ one line: what it leaves, and what it prints
-- c is what the line asks
abbrev pub obeyed : Run → KeptLine → Command → Run
obeyed r k c =
    record {
      words = words_after r.words c;
      read = read_after r.read c;
      lines = suc r.lines;
      phase = phase_after r.phase c;
      corrections = corrections_next r.corrections (rest_fields k.text) c;
      matrix = matrix_next r.matrix (rest_fields k.text) c;
    }

unfoldable pub next : Run → KeptLine → Run
next r k = obeyed (before_line r k.text) k (asked (before_line r k.text) k)

abbrev pub obeyed_says : Run → Command → List ℕ
obeyed_says r c = phase_says r.phase (suc r.lines) c

unfoldable pub says : Run → KeptLine → List ℕ
says r k = before_line_says r k.text ++ obeyed_says (before_line r k.text) (asked (before_line r k.text) k)

-- ════ lines one after the other
unfoldable pub run_after : Run → List KeptLine → Run
run_after r [] = r
run_after r (k ∷ ks) = run_after (next r k) ks

unfoldable pub says_all : Run → List KeptLine → List ℕ
says_all r [] = []
says_all r (k ∷ ks) = says r k ++ says_all (next r k) ks
