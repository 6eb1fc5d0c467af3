-- Document 01's "The night print": for its own six lines of input the program prints exactly its own six lines of output. Assumes nothing.
--   print_of    night_print, Print   what the program prints for a text
--   cases_hold cases, CasesHold    what the calls and the check give for these lines, "As printed, accepted"
use Rattle.std.specs.Prelude.{ℕ, ◌≡◌, true, length, get_or, take, drop, replicate, ℤ, pos, Ok, Err}
use Rattle.std.proofs.Math.Path.{refl, sym, ap}
use Rattle.std.proofs.Common.{◌∙◌, arith, lit<, lit≤}
use mathlib.Core.List.{List, [], ◌∷◌, ◌++◌}
use Rattle.std.proofs.Math.Seq.{take_at}
use Rattle.std.proofs.Math.IntN.{nat_abs}
use Rattle.network.specs.Stations.{network_of}
use Rattle.network.specs.StationWords.{kind_word, station_words, flat}
use Rattle.network.specs.Records.{observations, is_empty}
use Rattle.network.specs.OpeningLaws.{opened-fits}
use Rattle.network.specs.declared.Station.{Station}
use Rattle.network.specs.declared.Kind.TheVariants as kind
use Rattle.network.specs.declared.Network.{Network}
use Rattle.acceptance.specs.Judge.{answer_number, Answer}
use Rattle.acceptance.specs.JudgeLaws.{refusal-least}
use Rattle.book.specs.declared.Book.{Book}
use Rattle.book.specs.Book.{opened_book, book_next, book_says}
use Rattle.book.specs.declared.Change.TheVariants.{Enter}
use Rattle.book.specs.declared.Call.{Call}
use Rattle.book.specs.declared.Call.TheVariants.{Edit}
use Rattle.book.specs.Run.{final, answers}
use Rattle.book.specs.Rows.{row_next, row_says}
use Rattle.integers.specs.Sums.{sum_n}
use Rattle.sheet.specs.Sheet.{line_length, sheet_words, room}
use Rattle.sheet.specs.SheetLaws.{sheet_length}
use Rattle.checks.specs.Checks.{checked, has_room, on_acceptance, sheet_after}
use Rattle.cases.specs.Table.{station_list, level, table}
use Rattle.cases.specs.Cases.{rows_of, case_book, x_of, m_of, filled_places, enough, CaseHolds, first_case}
use Rattle.cases.specs.Brief.{brief_follows}
use Rattle.cases.proofs.CasesHold.{cases_hold}
use Rattle.text.specs.Before.{before}
use Rattle.text.specs.Numbers.{all_digits, is_decimal, value_after, signed_of, number_in, decimal_in, decimal}
use Rattle.text.specs.Fields.{fields_of, rest_fields, letter_of, numbers_in, at_most}
use Rattle.text.specs.Lines.{lines_of, lines_after}
use Rattle.commands.specs.Commands.{exactly, entry_of, entered, counted_as, station_of_kind, numbered_in_turn, station_of, other_of, fields_command, command_of}
use Rattle.commands.specs.Brings.{brings}
use Rattle.printing.specs.SheetText.{spaced, high_verdict, verdict, head_text, station_text, baseline_text, height_text, global_text, station_texts, text_for, record_start, record_texts, sheet_text}
use Rattle.printing.specs.SheetTextLaws.{global_room_lem}
use Rattle.printing.specs.Reports.{Offer, answer_says, check_says}
use Rattle.input_lines.specs.Runs.{unopened, opened, Given, none, given, phase_opened, opening_says, is_unopened, edits, phase_after, given_by, command_says, phase_says}
use Rattle.adjustment.specs.Ends.{book_ends, phase_ends}
use Rattle.night_print.specs.Print.{WholeRun, at_start, run_before, says_before, stations_after, line_next, line_says, lines_next, lines_say, end_prints, print_of}

-- ════ the input, line by line
-- `S 1 K 0 0 100000`
unfoldable pub STATION-1 : List ℕ
STATION-1 = 83 ∷ 32 ∷ 49 ∷ 32 ∷ 75 ∷ 32 ∷ 48 ∷ 32 ∷ 48 ∷ 32 ∷ 49 ∷ 48 ∷ 48 ∷ 48 ∷ 48 ∷ 48 ∷ []

-- `S 2 V 0 0 101000`
unfoldable pub STATION-2 : List ℕ
STATION-2 = 83 ∷ 32 ∷ 50 ∷ 32 ∷ 86 ∷ 32 ∷ 48 ∷ 32 ∷ 48 ∷ 32 ∷ 49 ∷ 48 ∷ 49 ∷ 48 ∷ 48 ∷ 48 ∷ []

-- `H 1 1 2 1000 100`
unfoldable pub HEIGHT-1 : List ℕ
HEIGHT-1 = 72 ∷ 32 ∷ 49 ∷ 32 ∷ 49 ∷ 32 ∷ 50 ∷ 32 ∷ 49 ∷ 48 ∷ 48 ∷ 48 ∷ 32 ∷ 49 ∷ 48 ∷ 48 ∷ []

-- `H 2 1 2 1100 100`
unfoldable pub HEIGHT-2 : List ℕ
HEIGHT-2 = 72 ∷ 32 ∷ 50 ∷ 32 ∷ 49 ∷ 32 ∷ 50 ∷ 32 ∷ 49 ∷ 49 ∷ 48 ∷ 48 ∷ 32 ∷ 49 ∷ 48 ∷ 48 ∷ []

-- `X 50`
unfoldable pub CORRECTIONS : List ℕ
CORRECTIONS = 88 ∷ 32 ∷ 53 ∷ 48 ∷ []

-- `M 5368709`
unfoldable pub MATRIX : List ℕ
MATRIX = 77 ∷ 32 ∷ 53 ∷ 51 ∷ 54 ∷ 56 ∷ 55 ∷ 48 ∷ 57 ∷ []

abbrev pub LF : List ℕ
LF = 10 ∷ []

-- "lines end in LF (the last may lack it)"
unfoldable pub INPUT-WITHOUT-LAST-LF : List ℕ
INPUT-WITHOUT-LAST-LF = STATION-1 ++ LF ++ STATION-2 ++ LF ++ HEIGHT-1 ++ LF ++ HEIGHT-2 ++ LF ++ CORRECTIONS ++ LF ++ MATRIX

unfoldable pub INPUT : List ℕ
INPUT = INPUT-WITHOUT-LAST-LF ++ LF

-- ════ "It prints exactly", line by line
unfoldable pub OUTPUT : List ℕ
OUTPUT =
    -- `SHEET 2 RECORDS 1 UNKNOWNS`
    (83 ∷ 72 ∷ 69 ∷ 69 ∷ 84 ∷ 32 ∷ 50 ∷ 32 ∷ 82 ∷ 69 ∷ 67 ∷ 79 ∷ 82 ∷ 68 ∷ 83 ∷ 32 ∷ 49 ∷ 32 ∷ 85 ∷ 78 ∷ 75 ∷ 78 ∷ 79 ∷ 87 ∷ 78 ∷ 83 ∷ 10 ∷ [])
    -- `1 0 0 100000 0 0 0`
    ++ (49 ∷ 32 ∷ 48 ∷ 32 ∷ 48 ∷ 32 ∷ 49 ∷ 48 ∷ 48 ∷ 48 ∷ 48 ∷ 48 ∷ 32 ∷ 48 ∷ 32 ∷ 48 ∷ 32 ∷ 48 ∷ 10 ∷ [])
    -- `2 0 0 101050 0 0 5368709`
    ++ (50 ∷ 32 ∷ 48 ∷ 32 ∷ 48 ∷ 32 ∷ 49 ∷ 48 ∷ 49 ∷ 48 ∷ 53 ∷ 48 ∷ 32 ∷ 48 ∷ 32 ∷ 48 ∷ 32 ∷ 53 ∷ 51 ∷ 54 ∷ 56 ∷ 55 ∷ 48 ∷ 57 ∷ 10 ∷ [])
    -- `1 -50 PASS`
    ++ (49 ∷ 32 ∷ 45 ∷ 53 ∷ 48 ∷ 32 ∷ 80 ∷ 65 ∷ 83 ∷ 83 ∷ 10 ∷ [])
    -- `2 50 PASS`
    ++ (50 ∷ 32 ∷ 53 ∷ 48 ∷ 32 ∷ 80 ∷ 65 ∷ 83 ∷ 83 ∷ 10 ∷ [])
    -- `GLOBAL 500000 1 PASS`
    ++ (71 ∷ 76 ∷ 79 ∷ 66 ∷ 65 ∷ 76 ∷ 32 ∷ 53 ∷ 48 ∷ 48 ∷ 48 ∷ 48 ∷ 48 ∷ 32 ∷ 49 ∷ 32 ∷ 80 ∷ 65 ∷ 83 ∷ 83 ∷ 10 ∷ [])

-- ════ the lines of the text
edit_lines : List (List ℕ)
edit_lines = HEIGHT-1 ∷ HEIGHT-2 ∷ CORRECTIONS ∷ MATRIX ∷ []

lines : List (List ℕ)
lines = STATION-1 ∷ STATION-2 ∷ edit_lines

lines_are : lines_of INPUT ≡ lines
unfolding lines edit_lines INPUT INPUT-WITHOUT-LAST-LF STATION-1 STATION-2 HEIGHT-1 HEIGHT-2 CORRECTIONS MATRIX lines_after
lines_are = refl

lines_without : lines_of INPUT-WITHOUT-LAST-LF ≡ lines
unfolding lines edit_lines INPUT-WITHOUT-LAST-LF STATION-1 STATION-2 HEIGHT-1 HEIGHT-2 CORRECTIONS MATRIX lines_after
lines_without = refl

-- ════ the stations are read
stations : List Station
stations =
    record { kind = kind.Known; east = pos 0; north = pos 0; up = pos 100000 }
    ∷ record { kind = kind.Height; east = pos 0; north = pos 0; up = pos 101000 }
    ∷ []

station_words_lem : flat stations ≡ station_list
unfolding stations flat station_words kind_word station_list
station_words_lem = refl

abbrev stations_read : WholeRun
stations_read = record { stations = stations; lines = 2; phase = unopened; corrections = none; matrix = none }

module _ (more : List (List ℕ)) where
  read_next : lines_next at_start (STATION-1 ∷ STATION-2 ∷ more) ≡ lines_next stations_read more
  unfolding stations STATION-1 STATION-2 lines_next line_next run_before stations_after phase_after is_unopened brings command_of fields_command station_of numbered_in_turn station_of_kind exactly letter_of rest_fields fields_of before numbers_in number_in signed_of is_decimal all_digits value_after
  read_next = refl

  read_says : lines_say at_start (STATION-1 ∷ STATION-2 ∷ more) ≡ lines_say stations_read more
  unfolding stations STATION-1 STATION-2 lines_say line_says line_next run_before says_before stations_after phase_after phase_says command_says is_unopened brings command_of fields_command station_of numbered_in_turn station_of_kind exactly letter_of rest_fields fields_of before numbers_in number_in signed_of is_decimal all_digits value_after
  read_says = refl

-- ════ the other lines, on an opened book b
abbrev with_book : Book → ℕ → Given → Given → WholeRun
with_book b k x m = record { stations = stations; lines = k; phase = opened b; corrections = x; matrix = m }

-- the calls of the two H lines
abbrev call1 : Call
call1 = Edit (pos 1) (Enter (level 1000))

abbrev call2 : Call
call2 = Edit (pos 2) (Enter (level 1100))

module _ (b : Book) where
  -- the first H line opens
  module _ (o : phase_opened (flat stations) unopened ≡ opened b) (s : opening_says (flat stations) unopened ≡ []) where
    line_opens : run_before stations_read HEIGHT-1 ≡ run_before (with_book b 2 none none) HEIGHT-1
    unfolding run_before phase_opened HEIGHT-1 letter_of before
    line_opens = rw o

    opened-next : lines_next stations_read edit_lines ≡ lines_next (with_book b 2 none none) edit_lines
    unfolding edit_lines lines_next line_next
    opened-next = rw line_opens

    opened-says : lines_say stations_read edit_lines ≡ lines_say (with_book b 2 none none) edit_lines
    unfolding edit_lines lines_say line_says line_next says_before opening_says HEIGHT-1 letter_of before
    opened-says = rw (s, line_opens)

  edits-next : lines_next (with_book b 2 none none) edit_lines ≡ with_book (book_next (book_next b call1) call2) 6 (given (x_of first_case)) (given (m_of first_case))
  unfolding edit_lines HEIGHT-1 HEIGHT-2 CORRECTIONS MATRIX lines_next line_next run_before stations_after phase_opened phase_after edits is_unopened brings given_by counted_as at_most command_of fields_command other_of entered entry_of exactly letter_of rest_fields fields_of before numbers_in number_in signed_of is_decimal all_digits value_after
  edits-next = refl

  -- where neither call is refused, nothing is printed
  edits_say : book_says b call1 ≡ 0 → book_says (book_next b call1) call2 ≡ 0 → lines_say (with_book b 2 none none) edit_lines ≡ []
  unfolding edit_lines HEIGHT-1 HEIGHT-2 CORRECTIONS MATRIX lines_say line_says line_next run_before says_before stations_after phase_opened opening_says phase_after phase_says command_says edits is_unopened brings given_by counted_as at_most command_of fields_command other_of entered entry_of exactly letter_of rest_fields fields_of before numbers_in number_in signed_of is_decimal all_digits value_after
  edits_say p q = rw (q, p)

  -- X and M are given: the end checks them
  end_checks : (x m : List ℤ) (offer : Offer) → end_prints (with_book b 6 (given x) (given m)) offer ≡ check_says b x m
  unfolding end_prints opening_says phase_opened phase_ends book_ends
  end_checks x m offer = refl

-- ════ the book: what is proved of these calls
holds : CaseHolds first_case
unfolding table
holds = cases_hold 0 (lit< tt)

abbrev new_book : Book
new_book = opened_book (network_of station_list)

opening_phase : phase_opened (flat stations) unopened ≡ opened new_book
unfolding phase_opened
opening_phase = rw (station_words_lem, holds.opened)

opening-silent : opening_says (flat stations) unopened ≡ []
unfolding opening_says
opening-silent = rw (station_words_lem, holds.opened)

-- neither call is refused
module _ (b : Book) (e : answers (row_next book_next) (row_says book_says) b (rows_of first_case) ≡ pos 0 ∷ pos 0 ∷ []) where
  answer_1 : book_says b call1 ≡ 0
  unfolding answers row_says
  answer_1 = ap (λ (l : List ℤ). nat_abs (get_or l 0 (pos 0))) e

  answer_2 : book_says (book_next b call1) call2 ≡ 0
  unfolding answers row_says row_next
  answer_2 = ap (λ (l : List ℤ). nat_abs (get_or l 1 (pos 0))) e

book_is : book_next (book_next new_book call1) call2 ≡ case_book first_case
unfolding final row_next
book_is = refl

two_stations : (case_book first_case).network.count ≡ 2
unfolding network_of station_list
two_stations = ap (λ (n : Network). n.count) (brief_follows (network_of station_list) (opened-fits station_list holds.opened) (rows_of first_case)).network

-- ════ the check: what is proved of it
-- only an acceptance has number 0
accepted_0 : (a : Answer) → answer_number a ≡ 0 → a ≡ Ok tt
accepted_0 (Ok u) e = refl
accepted_0 (Err refusal) e = absurd (omega (arith, refusal-least refusal))

room-is : room (case_book first_case).network (case_book first_case).places ≡ length first_case.sheet
unfolding record_start sum_n line_length is_empty observations filled_places
room-is = sym (global_room_lem (case_book first_case).network (case_book first_case).places) ∙ rw (two_stations, holds.records)

-- the words of a sheet are those that it leaves at the front of lent ones
module _ (b : Book) (x m lent sheet : List ℤ) where
  words_from : checked b x m (has_room b lent) ≡ Ok tt → room b.network b.places ≡ length sheet → sheet_after b x m lent ≡ sheet ++ drop (length sheet) lent
      → sheet_words b.network b.places x m ≡ sheet
  unfolding sheet_after on_acceptance
  words_from accepts long leaves =
      let words = sheet_words b.network b.places x m in
      sym (take_at words (drop (room b.network b.places) lent) (length sheet) (sheet_length b.network b.places x m ∙ long))
      ∙ ap (take (length sheet)) (rw accepts at leaves)
      ∙ take_at sheet (drop (length sheet) lent) (length sheet) refl

words_are : sheet_words (case_book first_case).network (case_book first_case).places (x_of first_case) (m_of first_case) ≡ first_case.sheet
words_are =
    let lent = replicate enough (pos 0) in
    words_from (case_book first_case) (x_of first_case) (m_of first_case) lent first_case.sheet
    (accepted_0 (checked (case_book first_case) (x_of first_case) (m_of first_case) (has_room (case_book first_case) lent)) (holds.check_sheet lent (lit≤ tt)).number)
    room-is
    (holds.written lent (lit≤ tt))

sheet_text_lem : sheet_text first_case.sheet 2 (filled_places first_case.records) ≡ OUTPUT
unfolding OUTPUT filled_places sheet_text head_text station_texts station_text record_texts text_for record_start sum_n line_length is_empty observations height_text baseline_text global_text spaced verdict high_verdict decimal decimal_in
sheet_text_lem = refl

check_prints : check_says (case_book first_case) (x_of first_case) (m_of first_case) ≡ OUTPUT
unfolding check_says answer_says
check_prints =
    let accepts = accepted_0 (checked (case_book first_case) (x_of first_case) (m_of first_case) true) holds.check.number in
    rw (accepts, words_are, two_stations, holds.records) sheet_text_lem

-- ════ the text
all_next : lines_next at_start lines ≡ with_book (case_book first_case) 6 (given (x_of first_case)) (given (m_of first_case))
unfolding lines
all_next =
    read_next edit_lines
    ∙ opened-next new_book opening_phase opening-silent
    ∙ edits-next new_book
    ∙ ap (λ (b : Book). with_book b 6 (given (x_of first_case)) (given (m_of first_case))) book_is

all_say : lines_say at_start lines ≡ []
unfolding lines
all_say =
    read_says edit_lines
    ∙ opened-says new_book opening_phase opening-silent
    ∙ edits_say new_book (answer_1 new_book holds.answered) (answer_2 new_book holds.answered)

lines_print : (text : List ℕ) → lines_of text ≡ lines → (offer : Offer) → print_of text offer ≡ OUTPUT
unfolding print_of
lines_print text are offer = rw (are, all_say, all_next) (end_checks (case_book first_case) (x_of first_case) (m_of first_case) offer ∙ check_prints)

-- ════ the theorems, whatever the engine's offer is: X and M are given, so it is not asked
pub document_01 : (offer : Offer) → print_of INPUT offer ≡ OUTPUT
document_01 = lines_print INPUT lines_are

-- "the last may lack it"
pub document_01_without_last_lf : (offer : Offer) → print_of INPUT-WITHOUT-LAST-LF offer ≡ OUTPUT
document_01_without_last_lf = lines_print INPUT-WITHOUT-LAST-LF lines_without
