-- What a case of the table says of the calls that ship, by the definitions that their contracts equal. Assumes nothing.
--   opens, book_answers, book_after   the opening and the calls of a book, one after the other: what `replay` promises
--   checked, sheet_after             the answer to a check and the lent words afterwards: what `check` and `check_sheet` promise
use Rattle.std.specs.Prelude.{ℕ, ◌-◌, ◌≤◌, ◌<◌, ◌≡◌, true, List, [], ◌∷◌, ◌++◌, map, ℤ, pos, length, get_or, drop, replicate, Option, Some}
use Rattle.network.specs.Stations.{unknown_count, network_of, opens}
use Rattle.network.specs.declared.Network.{Network}
use Rattle.network.specs.Records.{vacant}
use Rattle.network.specs.declared.Record.{Record}
use Rattle.network.specs.declared.Place.{Place}
use Rattle.normals.specs.Formulas.{entry_n, entry_u}
use Rattle.acceptance.specs.Tests.{at, by_rows, refinement}
use Rattle.acceptance.specs.Judge.{answer_number, answer_unknown, Answer}
use Rattle.book.specs.declared.Book.{Book}
use Rattle.book.specs.declared.Call.{Call}
use Rattle.book.specs.Book as spec
use Rattle.book.specs.Run.{final, answers}
use Rattle.book.specs.Rows.{row_next, row_says}
use Rattle.book.specs.Book.{book_next, book_says}
use Rattle.book.specs.Demand3.{book_answers, book_after}
use Rattle.checks.specs.Checks.{checked, has_room, sheet_after}
use Rattle.cases.specs.Table.{Case, station_list, printed_calls, as_printed, table}

-- the calls as rows of a run, and the book that they leave
abbrev pub rows_of : Case → List (Option Call)
rows_of c = map Some c.calls

abbrev pub case_book : Case → Book
case_book c = book_after (network_of station_list) (rows_of c)

-- X and M as lent
abbrev pub x_of : Case → List ℤ
x_of c = c.x ∷ []

abbrev pub m_of : Case → List ℤ
m_of c = c.m ∷ []

-- entry i of Mr, on a network and its places
abbrev pub refined_at : Network → List Place → List ℤ → List ℤ → ℕ → ℤ
refined_at net places x m i =
    refinement (unknown_count net.stations) (entry_n net.stations places) (by_rows (unknown_count net.stations) m) (entry_u net.stations places) (at x) i

-- the 256 places that hold these records from the first on, and nothing beyond
unfoldable pub filled_places : List Record → List Place
filled_places records = map (λ r. record { entry = r }) records ++ replicate (256 - length records) vacant

-- no case's sheet takes more words
abbrev pub enough : ℕ
enough = 32

-- an answer to a check by its number and unknown
pub record AnswersAs (c : Case) (answer : Answer) : Type 0 where
  pub number : answer_number answer ≡ c.number
  pub unknown : answer_unknown answer ≡ c.unknown

pub record CaseHolds (c : Case) : Type 0 where
  pub opened : opens station_list ≡ true
  pub answered : book_answers (network_of station_list) (rows_of c) ≡ map pos c.answers
  pub records : (case_book c).places ≡ filled_places c.records
  pub refined : refined_at (case_book c).network (case_book c).places (x_of c) (m_of c) 0 ≡ c.refined
  -- without a sheet, and with one of any words that are enough: words beyond stay
  pub check : AnswersAs c (checked (case_book c) (x_of c) (m_of c) true)
  pub check_sheet : (lent : List ℤ) → enough ≤ length lent → AnswersAs c (checked (case_book c) (x_of c) (m_of c) (has_room (case_book c) lent))
  pub written : (lent : List ℤ) → enough ≤ length lent → sheet_after (case_book c) (x_of c) (m_of c) lent ≡ c.sheet ++ drop (length c.sheet) lent

-- case k of the table, counted from 0; beyond its last it is the first again
abbrev pub first_case : Case
first_case = as_printed (printed_calls 1100) (0 ∷ 0 ∷ [])

abbrev pub case_at : ℕ → Case
case_at k = get_or table k first_case

-- the one statement
abbrev pub CasesHold : Type 0
CasesHold = (k : ℕ) → k < length table → CaseHolds (case_at k)

-- ════ what a run of a case gives
-- rows answered in turn, at the front of a lent list, and the book that they leave
pub record CallsMade (b : Book) (rows : List (Option Call)) (before after : List ℤ) (last : Book) : Type 0 where
  pub answered : after ≡ answers (row_next book_next) (row_says book_says) b rows ++ drop (length rows) before
  pub left : last ≡ final (row_next book_next) b rows
  pub sound : spec.sound last ≡ true

-- the calls answered and the check: the answers and the sheet at the front of the lent words
pub record CaseRan (c : Case) (answers answers' sheet sheet' : List ℤ) (answer : Answer) : Type 0 where
  pub answered : answers' ≡ map pos c.answers ++ drop (length c.answers) answers
  pub checked : AnswersAs c answer
  pub written : sheet' ≡ c.sheet ++ drop (length c.sheet) sheet
