-- Document 01's "The night print", over the lines of a text: all of them, each whole, with all the stations that they give. The code keeps less of both
-- (input_lines, Runs); that it prints the same is proved in specs/PrintLaws.antt (`text_says`, `end_kept`). Assumes nothing.
--   lines_of                    text, Lines           "lines end in LF (the last may lack it)"
--   command_of, is_station_line   commands, Commands    what a line asks, and whether its first field is S
--   flat                       network, StationWords the words of a station list
--   phase_opened, opening_says   input_lines, Runs     an opening, and what it prints where it is refused
--   phase_after, phase_says      input_lines, Runs     what a command leaves of the book, and what it prints
--   corrections_next, matrix_next   input_lines, Runs  "a later one replaces an earlier"
use Rattle.std.specs.Prelude.{ℕ, suc, ◌≡◌, cond, List, [], ◌∷◌, ◌++◌, length}
use Rattle.network.specs.StationWords.{flat}
use Rattle.network.specs.declared.Station as station
use Rattle.book.specs.declared.Book.{Book}
use Rattle.text.specs.Fields.{rest_fields}
use Rattle.text.specs.Lines.{lines_of}
use Rattle.commands.specs.Commands.{command_of, is_station_line}
use Rattle.commands.specs.declared.Command.{Command}
use Rattle.commands.specs.declared.Command.TheVariants.{Station, Call, Corrections, Matrix, Unreadable}
use Rattle.printing.specs.Reports.{Offer, ValidOffer}
use Rattle.input_lines.specs.Runs.{Phase, unopened, opened, Given, none, phase_opened, opening_says, is_unopened, phase_after, phase_says, corrections_next, matrix_next}
use Rattle.adjustment.specs.Ends.{phase_ends}

-- ════ what the lines so far have left
pub record WholeRun : Type 0 where
  -- the stations of all S lines that were read, in their order
  pub stations : List station.Station
  -- how many lines there were
  pub lines : ℕ
  -- the book, once it is opened
  pub phase : Phase
  -- the numbers of the latest readable X line, and of the latest M line
  pub corrections : Given
  pub matrix : Given

abbrev pub at_start : WholeRun
at_start = record { stations = []; lines = 0; phase = unopened; corrections = none; matrix = none }

-- ════ one line
-- "the first line whose first field isn't S, or the end, opens": an opened book stays
abbrev pub opens_run : WholeRun → WholeRun
opens_run r =
    record {
      stations = r.stations;
      lines = r.lines;
      phase = phase_opened (flat r.stations) r.phase;
      corrections = r.corrections;
      matrix = r.matrix;
    }

-- the run as a line finds it, and what was printed on the way
unfoldable pub run_before : WholeRun → List ℕ → WholeRun
run_before r line = cond (is_station_line line) r (opens_run r)

-- "A refused opening … prints `REFUSED no` …, and ends"
unfoldable pub says_before : WholeRun → List ℕ → List ℕ
says_before r line = cond (is_station_line line) [] (opening_says (flat r.stations) r.phase)

-- "An S line later, not numbered in turn from 1, or of another kind letter is unreadable"
abbrev pub line_asks : WholeRun → List ℕ → Command
line_asks r line = command_of (length r.stations) (is_unopened r.phase) line

unfoldable pub stations_after : List station.Station → Command → List station.Station
stations_after ss (Station s) = ss ++ (s ∷ [])
stations_after ss (Call c) = ss
stations_after ss (Corrections n) = ss
stations_after ss (Matrix n) = ss
stations_after ss Unreadable = ss

-- c is what the line asks
abbrev pub line_obeyed : WholeRun → List ℕ → Command → WholeRun
line_obeyed r line c =
    record {
      stations = stations_after r.stations c;
      lines = suc r.lines;
      phase = phase_after r.phase c;
      corrections = corrections_next r.corrections (rest_fields line) c;
      matrix = matrix_next r.matrix (rest_fields line) c;
    }

unfoldable pub line_next : WholeRun → List ℕ → WholeRun
line_next r line = line_obeyed (run_before r line) line (line_asks (run_before r line) line)

-- "A refused edit prints `LINE k REFUSED no`, k from 1; any other line `LINE k UNREADABLE`; the run goes on"
unfoldable pub line_says : WholeRun → List ℕ → List ℕ
line_says r line = says_before r line ++ phase_says (run_before r line).phase (suc (run_before r line).lines) (line_asks (run_before r line) line)

-- ════ all lines, and the end
unfoldable pub lines_next : WholeRun → List (List ℕ) → WholeRun
lines_next r [] = r
lines_next r (line ∷ more) = lines_next (line_next r line) more

unfoldable pub lines_say : WholeRun → List (List ℕ) → List ℕ
lines_say r [] = []
lines_say r (line ∷ more) = line_says r line ++ lines_say (line_next r line) more

-- "… or the end, opens"; then the check, or, "Without a readable X or M line", the proposal, where `offer` is what the engine gives
unfoldable pub end_prints : WholeRun → Offer → List ℕ
end_prints r offer = opening_says (flat r.stations) r.phase ++ phase_ends r.corrections r.matrix (opens_run r).phase offer

abbrev pub after_lines : List ℕ → WholeRun
after_lines text = lines_next at_start (lines_of text)

unfoldable pub print_of : List ℕ → Offer → List ℕ
print_of text offer = lines_say at_start (lines_of text) ++ end_prints (after_lines text) offer

-- ════ "It prints exactly": the bytes are those of the text, with an offer that is named: "a pair the check accepts, or no proposal"
pub record Prints (text bytes : List ℕ) : Type 0 where
  pub offer : Offer
  pub offers : (b : Book) → (opens_run (after_lines text)).phase ≡ opened b → ValidOffer b offer
  pub are : bytes ≡ print_of text offer
