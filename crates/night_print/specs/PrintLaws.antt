-- What the code keeps of lines and stations prints what they print whole. Assumes nothing.
use Rattle.std.specs.Prelude.{ℕ, ◌≤◌, ◌≡◌, Bool, List, [], ◌∷◌, map, length, take, ℤ}
use Rattle.std.proofs.Math.Path.{refl}
use Rattle.std.proofs.Common.{sym, ap, ◌∙◌, arith, lt-ltb, length-append, take_all}
use Rattle.std.proofs.Math.Bool.{true, false, cond}
use Rattle.std.proofs.Math.Decide.{dec_le}
use Rattle.network.specs.StationWords.{flat, flat-length, flat-one}
use Rattle.network.specs.declared.Station as station
use Rattle.text.specs.Fields.{rest_fields}
use Rattle.text.specs.Lines.{kept, lines_of}
use Rattle.commands.specs.Brings.{SolutionPart, corrections, matrix, brings, unreadable_none}
use Rattle.commands.specs.Commands.{longest_line, command_of, is_station_line, corrections_in, matrix_in}
use Rattle.commands.specs.CommandLaws.{kept_command_lem, kept-station_line}
use Rattle.commands.specs.declared.Command.{Command}
use Rattle.commands.specs.declared.Command.TheVariants.{Station, Call, Corrections, Matrix, Unreadable}
use Rattle.printing.specs.Reports.{Offer}
use Rattle.input_lines.specs.Runs.{Phase, unopened, opened, ended, Given, Run, list_room, start, phase_opened, opening_says, open_run, before_line, before_line_says, asked, is_unopened, words_after, read_after, given_by, obeyed, next, says, run_after, says_all}
use Rattle.input_lines.specs.Cut.{noted_one, opening-cut}
use Rattle.adjustment.specs.Ends.{end_says}
use Rattle.night_print.specs.Print.{WholeRun, at_start, opens_run, run_before, says_before, line_asks, stations_after, line_obeyed, line_next, line_says, lines_next, lines_say, end_prints, after_lines}

-- ════ what is kept of a run
abbrev pub kept_run : WholeRun → Run
kept_run r =
    record {
      words = take list_room (flat r.stations);
      read = length r.stations;
      lines = r.lines;
      phase = r.phase;
      corrections = r.corrections;
      matrix = r.matrix;
    }

-- ════ openings
opened-cut : (l : List ℤ) (p : Phase) → phase_opened (take list_room l) p ≡ phase_opened l p
unfolding phase_opened
opened-cut l unopened = rw (opening-cut l)
opened-cut l (opened b) = refl
opened-cut l ended = refl

says-cut : (l : List ℤ) (p : Phase) → opening_says (take list_room l) p ≡ opening_says l p
unfolding opening_says
says-cut l unopened = rw (opening-cut l)
says-cut l (opened b) = refl
says-cut l ended = refl

-- ════ stations
words_kept : (ss : List station.Station) (c : Command) → words_after (take list_room (flat ss)) c ≡ take list_room (flat (stations_after ss c))
unfolding words_after stations_after
words_kept ss (Station s) = noted_one (flat ss) (length ss) s (flat-length ss) ∙ ap (take list_room) (sym (flat-one ss s))
words_kept ss (Call c) = refl
words_kept ss (Corrections n) = refl
words_kept ss (Matrix n) = refl
words_kept ss Unreadable = refl

read_kept : (ss : List station.Station) (c : Command) → read_after (length ss) c ≡ length (stations_after ss c)
unfolding read_after stations_after
read_kept ss (Station s) = simp length-append (omega arith)
read_kept ss (Call c) = refl
read_kept ss (Corrections n) = refl
read_kept ss (Matrix n) = refl
read_kept ss Unreadable = refl

-- ════ the numbers of X and M: a line that is too long brings none, any other is kept whole
too_long : (read : ℕ) (u : Bool) (line : List ℕ) → (length line ≤ longest_line → ⊥) → command_of read u line ≡ Unreadable
unfolding command_of
too_long read u line h = rw (lt-ltb longest_line (length line) (omega arith))

module _ (read : ℕ) (u : Bool) (line : List ℕ) (part : SolutionPart) (f : List (List ℕ) → Given) (g : Given) where
  given-kept : cond (brings (command_of read u line) part) (f (rest_fields (take longest_line line))) g ≡ cond (brings (command_of read u line) part) (f (rest_fields line)) g
  given-kept = by (dec_le (length line) longest_line)
    where
      by : Dec (length line ≤ longest_line) →
          cond (brings (command_of read u line) part) (f (rest_fields (take longest_line line))) g ≡ cond (brings (command_of read u line) part) (f (rest_fields line)) g
      by (yes h) = rw (take_all longest_line line h)
      by (no h) = rw (too_long read u line h, unreadable_none part)

-- ════ one line
module _ (r : WholeRun) (line : List ℕ) where
  before-kept : before_line (kept_run r) (take longest_line line) ≡ kept_run (run_before r line)
  unfolding before_line run_before
  before-kept = rw (kept-station_line line, opened-cut (flat r.stations) r.phase) (by (is_station_line line))
    where
      by : (t : Bool) → cond t (kept_run r) (kept_run (opens_run r)) ≡ kept_run (cond t r (opens_run r))
      by true = refl
      by false = refl

  says_before-kept : before_line_says (kept_run r) (take longest_line line) ≡ says_before r line
  unfolding before_line_says says_before
  says_before-kept = rw (kept-station_line line, says-cut (flat r.stations) r.phase)

  obeyed-kept : obeyed (kept_run r) (kept longest_line line) (asked (kept_run r) (kept longest_line line)) ≡ kept_run (line_obeyed r line (line_asks r line))
  obeyed-kept =
      rw (
        kept_command_lem (length r.stations) (is_unopened r.phase) line,
        words_kept r.stations (line_asks r line),
        read_kept r.stations (line_asks r line),
        given-kept (length r.stations) (is_unopened r.phase) line corrections (λ fields. given_by (corrections_in fields)) r.corrections,
        given-kept (length r.stations) (is_unopened r.phase) line matrix (λ fields. given_by (matrix_in fields)) r.matrix,
      )

next-kept : (r : WholeRun) (line : List ℕ) → next (kept_run r) (kept longest_line line) ≡ kept_run (line_next r line)
unfolding next line_next
next-kept r line = rw (before-kept r line) (obeyed-kept (run_before r line) line)

says-kept : (r : WholeRun) (line : List ℕ) → says (kept_run r) (kept longest_line line) ≡ line_says r line
unfolding says line_says
says-kept r line =
    rw (says_before-kept r line, before-kept r line, kept_command_lem (length (run_before r line).stations) (is_unopened (run_before r line).phase) line)

-- ════ all lines, and the end
run_kept : (r : WholeRun) (lines : List (List ℕ)) → run_after (kept_run r) (map (kept longest_line) lines) ≡ kept_run (lines_next r lines)
unfolding run_after lines_next
run_kept r [] = refl
run_kept r (line ∷ lines) = ap (λ (q : Run). run_after q (map (kept longest_line) lines)) (next-kept r line) ∙ run_kept (line_next r line) lines

says_all-kept : (r : WholeRun) (lines : List (List ℕ)) → says_all (kept_run r) (map (kept longest_line) lines) ≡ lines_say r lines
unfolding says_all lines_say
says_all-kept r [] = refl
says_all-kept r (line ∷ lines) = rw (says-kept r line, next-kept r line, says_all-kept (line_next r line) lines)

pub open_kept : (r : WholeRun) → (open_run (kept_run r)).phase ≡ (opens_run r).phase
open_kept r = opened-cut (flat r.stations) r.phase

pub end_kept : (r : WholeRun) (offer : Offer) → end_says (kept_run r) offer ≡ end_prints r offer
unfolding end_says end_prints
end_kept r offer = rw (says-cut (flat r.stations) r.phase, opened-cut (flat r.stations) r.phase)

-- ════ a text
start-kept : kept_run at_start ≡ start
unfolding flat
start-kept = refl

pub text_run : (text : List ℕ) → run_after start (map (kept longest_line) (lines_of text)) ≡ kept_run (after_lines text)
text_run text = ap (λ (q : Run). run_after q (map (kept longest_line) (lines_of text))) (sym start-kept) ∙ run_kept at_start (lines_of text)

pub text_says : (text : List ℕ) → says_all start (map (kept longest_line) (lines_of text)) ≡ lines_say at_start (lines_of text)
text_says text = ap (λ (q : Run). says_all q (map (kept longest_line) (lines_of text))) (sym start-kept) ∙ says_all-kept at_start (lines_of text)
