-- A run as the code holds it: a small state, bytes that hold a book once there is one, and lent lists of words, corrections and matrix entries, each from its front. Assumes nothing.
use Rattle.std.specs.Prelude.{ℕ, suc, ◌+◌, ◌≤◌, ◌≡◌, Bool, true, false, cond, List, Option, Some, None, unwrap_or, eqb, length, take, ℤ}
use Rattle.network.specs.declared.Station as station
use Rattle.book.specs.declared.Book.{Book}
use Rattle.book.specs.Outcome.{Outcome}
use Rattle.layout.specs.Layout.{book_bytes}
use Rattle.layout.specs.Bytes.{book_of, bytes_fit}
use Rattle.text.specs.Fields.{rest_fields}
use Rattle.text.specs.Lines.{KeptLine}
use Rattle.text.specs.Writing as writing
use Rattle.commands.specs.Commands.{most_corrections, most_entries, kept_command}
use Rattle.commands.specs.Brings.{SolutionPart, brings, how_many}
use Rattle.commands.specs.declared.Command.{Command}
use Rattle.printing.specs.Rooms.{refused_room}
use Rattle.input_lines.specs.declared.Phase as code-phase
use Rattle.input_lines.specs.declared.Phase.TheVariants.{Unopened, Opened, Ended}
use Rattle.input_lines.specs.declared.State.{State}
use Rattle.input_lines.specs.declared.LineRead.{LineRead}
use Rattle.input_lines.specs.Runs.{Phase, unopened, opened, ended, Given, none, given, Run, list_room, noted, before_line, before_line_says, words_after, read_after, corrections_next, matrix_next}

-- ════ what it stands for
unfoldable pub phase_of : code-phase.Phase → Book → Phase
phase_of Unopened b = unopened
phase_of Opened b = opened b
phase_of Ended b = ended

unfoldable pub given_of : Option ℕ → List ℤ → Given
given_of None l = none
given_of (Some n) l = given (take n l)

abbrev pub run_of : State → Book → List ℤ → List ℤ → List ℤ → Run
run_of s b list x m =
    record {
      words = take s.words list;
      read = s.read;
      lines = s.lines;
      phase = phase_of s.phase b;
      corrections = given_of s.corrections x;
      matrix = given_of s.matrix m;
    }

-- ════ its phase, in tests
abbrev pub unopened_phase : code-phase.Phase → Bool
unopened_phase Unopened = true
unopened_phase Opened = false
unopened_phase Ended = false

abbrev pub opened_phase : code-phase.Phase → Bool
opened_phase Unopened = false
opened_phase Opened = true
opened_phase Ended = false

abbrev pub ended_phase : code-phase.Phase → Bool
ended_phase Unopened = false
ended_phase Opened = false
ended_phase Ended = true

-- the phase after an opening with that refusal
abbrev pub phase_at : ℕ → code-phase.Phase
phase_at refusal = cond (eqb refusal 0) Opened Ended

-- ════ what the code keeps up
abbrev pub given_length : Option ℕ → ℕ
given_length g = unwrap_or g 0

pub record Ready (s : State) (bytes : List ℕ) (list x m : List ℤ) : Type 0 where
  pub room_book : book_bytes ≤ length bytes
  pub room_list : list_room ≤ length list
  pub room_x : most_corrections ≤ length x
  pub room-m : most_entries ≤ length m
  pub words : s.words ≤ list_room
  pub corrections : given_length s.corrections ≤ most_corrections
  pub matrix : given_length s.matrix ≤ most_entries
  pub read : s.read ≤ s.lines
  pub fits : opened_phase s.phase ≡ true → bytes_fit bytes ≡ true

-- ════ the opening
abbrev pub opened_with : State → ℕ → State
opened_with s refusal =
    record { lines = s.lines; read = s.read; words = s.words; phase = phase_at refusal; corrections = s.corrections; matrix = s.matrix }

-- ════ an edit that comes out as e, on bytes: its number, and the bytes afterwards, which hold its book. Bytes beyond the book are free: no later call looks there
pub record EditLeaves (e : Outcome) (n : ℕ) (after : List ℕ) : Type 0 where
  pub number : n ≡ e.refusal
  pub reads : book_of after ≡ e.book

-- ════ a line noted: the words at the front of the list, up to r
pub record Noted (list : List ℤ) (words : ℕ) (s : station.Station) (r : ℕ) (after : List ℤ) : Type 0 where
  pub leaves : take r after ≡ noted (take words list) s
  pub few : r ≤ list_room

pub record WordsNoted (list : List ℤ) (words : ℕ) (c : Command) (r : ℕ) (after : List ℤ) : Type 0 where
  pub leaves : take r after ≡ words_after (take words list) c
  pub few : r ≤ list_room

-- how many numbers of that part were given last
abbrev pub given_count : SolutionPart → Option ℕ → Command → Option ℕ
given_count part g c = cond (brings c part) (Some (how_many c)) g

-- what a line asks, and what it leaves of the state and the lent lists. Beyond what the state counts the lists are free: no later call looks there
pub record Reads (s : State) (k : KeptLine) (list x m : List ℤ) (a : LineRead) (list' x' m' : List ℤ) : Type 0 where
  pub command : a.command ≡ kept_command s.read (unopened_phase s.phase) k
  pub words : take a.state.words list' ≡ words_after (take s.words list) a.command
  pub read : a.state.read ≡ read_after s.read a.command
  pub lines : a.state.lines ≡ suc s.lines
  pub phase : a.state.phase ≡ s.phase
  pub corrections : given_of a.state.corrections x' ≡ corrections_next (given_of s.corrections x) (rest_fields k.text) a.command
  pub matrix : given_of a.state.matrix m' ≡ matrix_next (given_of s.matrix m) (rest_fields k.text) a.command
  pub few_words : a.state.words ≤ list_room
  pub few_corrections : given_length a.state.corrections ≤ most_corrections
  pub few_matrix : given_length a.state.matrix ≤ most_entries

-- ════ the run comes to r', and `says` is printed from `at` on, in so much room at most
pub record RunsTo (r' : Run) (says : List ℕ) (room : ℕ) (before : List ℕ) (at : ℕ) (r : Run) (next : ℕ) (after : List ℕ) : Type 0 where
  pub run : r ≡ r'
  pub written : writing.Written before at says next after
  pub few : next ≤ at + room

-- a line begins, whatever the corrections and the matrix: the book may be opened
pub record LineBegins (s : State) (bytes : List ℕ) (list : List ℤ) (line : List ℕ) (before : List ℕ) (at : ℕ) (s₁ : State) (bytes₁ : List ℕ) (next : ℕ) (after : List ℕ) : Type 0 where
  pub runs : (x m : List ℤ) → RunsTo (before_line (run_of s (book_of bytes) list x m) line) (before_line_says (run_of s (book_of bytes) list x m) line) refused_room before at (run_of s₁ (book_of bytes₁) list x m) next after
  pub ready : {x m : List ℤ} → Ready s bytes list x m → Ready s₁ bytes₁ list x m
  pub lines : s₁.lines ≡ s.lines
