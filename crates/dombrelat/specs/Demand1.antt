-- Demand 1 over the C calls, the statement alone (specs/Demand1Holds.antt proves it): every call answers on every input; a refusal gives its number and changes nothing. Document 01: "It
-- changes neither book, history nor sheet. A refused opening makes no book and writes nothing on lent bytes." The crate engine states it over the calls in the language. Assumes nothing.
--   open_call, edit_call     specs/Calls.antt       what the contracts of the C calls promise: the answer, and the lent bytes afterwards
--   check_call, sheet_call, distance_call   specs/CheckCalls.antt
--   Proposes               specs/Proposal.antt
--   unknowns_call, sheet_bytes_call, stations_call, record_call   specs/Reading.antt; numbered: 256 · the number that a call gives
--   write_call, check_file_call, found_call, enter_call   specs/FileCalls.antt; salvage_call   specs/SalvageCall.antt
--   bytes_fit               layout, specs/Bytes.antt   what 25 tests of lent book bytes
use Rattle.std.specs.Prelude.{ℕ, ◌*◌, ◌%◌, ◌≡◌, true, List, [], ◌∷◌, length, ℤ, pos, negsuc}
use Rattle.book.specs.declared.Call.{Call}
use Rattle.network.specs.Stations.{unknown_count}
use Rattle.sheet.specs.Sheet.{room}
use Rattle.distances.specs.declared.CheckDistance.{CheckDistance}
use Rattle.layout.specs.Bytes.{book_of, bytes_fit}
use Rattle.book_files.specs.Writing.{book_entries}
use Rattle.dombrelat.specs.Calls.{edit_call, open_call}
use Rattle.dombrelat.specs.CheckCalls.{check_call, sheet_call, distance_call}
use Rattle.dombrelat.specs.Proposal.{Proposes}
use Rattle.dombrelat.specs.Reading.{numbered, unknowns_call, sheet_bytes_call, stations_call, record_call}
use Rattle.dombrelat.specs.FileCalls.{write_call, check_file_call, found_call, enter_call}
use Rattle.dombrelat.specs.SalvageCall.{salvage_call}

-- ════ a C call with all that it is lent: a later call joins by a line here, and by one in each definition below
pub data Asked : Type 0 where
  to_open : (list book : List ℕ) → Asked
  to_edit : (book : List ℕ) → Call → Asked
  to_check : (book x m : List ℕ) → Asked
  to_check_sheet : (book x m sheet : List ℕ) → Asked
  to_check_distance : (book x m : List ℕ) → CheckDistance → Asked
  to_propose : (book x m : List ℕ) → Asked
  to_read_unknowns : (book : List ℕ) → Asked
  to_read_sheet_bytes : (book : List ℕ) → Asked
  to_read_stations : (book list : List ℕ) → Asked
  to_read_record : (book : List ℕ) → (place : ℤ) → (out : List ℕ) → Asked
  to_write_file : (book file : List ℕ) → Asked
  to_check_file : (file : List ℕ) → Asked
  to_find_entry : (night day : List ℕ) → (place : ℤ) → (found : List ℕ) → Asked
  to_enter_file : (book file answers : List ℕ) → Asked
  to_salvage : (damaged fresh skipped kept counts : List ℕ) → Asked

-- the book bytes that it is lent to write on, if it is, and every other slice that it may write on. Slices that are lent to read cannot change
pub record Left : Type 0 where
  pub books : List (List ℕ)
  pub others : List (List ℕ)

-- as they came
unfoldable pub given : Asked → Left
given (to_open list book) = record { books = book ∷ []; others = [] }
given (to_edit book c) = record { books = book ∷ []; others = [] }
given (to_check book x m) = record { books = []; others = [] }
given (to_check_sheet book x m sheet) = record { books = []; others = sheet ∷ [] }
given (to_check_distance book x m d) = record { books = []; others = [] }
given (to_propose book x m) = record { books = []; others = x ∷ m ∷ [] }
given (to_read_unknowns book) = record { books = []; others = [] }
given (to_read_sheet_bytes book) = record { books = []; others = [] }
given (to_read_stations book list) = record { books = []; others = list ∷ [] }
given (to_read_record book place out) = record { books = []; others = out ∷ [] }
given (to_write_file book file) = record { books = []; others = file ∷ [] }
given (to_check_file file) = record { books = []; others = [] }
given (to_find_entry night day place found) = record { books = []; others = found ∷ [] }
given (to_enter_file book file answers) = record { books = book ∷ []; others = answers ∷ [] }
given (to_salvage damaged fresh skipped kept counts) = record { books = []; others = fresh ∷ skipped ∷ kept ∷ counts ∷ [] }

-- the answer r, and the slices afterwards: as the contracts have it
unfoldable pub Returns : Asked → ℤ → Left → Type 0
Returns (to_open list book) r left = (r ≡ (open_call list book).answer) × (left ≡ record { books = (open_call list book).bytes ∷ []; others = [] })
Returns (to_edit book c) r left = (r ≡ (edit_call book c).answer) × (left ≡ record { books = (edit_call book c).bytes ∷ []; others = [] })
Returns (to_check book x m) r left = (r ≡ check_call book x m) × (left ≡ record { books = []; others = [] })
Returns (to_check_sheet book x m sheet) r left =
    (r ≡ (sheet_call book x m sheet).answer) × (left ≡ record { books = []; others = (sheet_call book x m sheet).sheet ∷ [] })
Returns (to_check_distance book x m d) r left = (r ≡ distance_call book x m d) × (left ≡ record { books = []; others = [] })
Returns (to_propose book x m) r left = (x' : List ℕ) × (m' : List ℕ) × Proposes book r x m x' m' × (left ≡ record { books = []; others = x' ∷ m' ∷ [] })
Returns (to_read_unknowns book) r left = (r ≡ unknowns_call book) × (left ≡ record { books = []; others = [] })
Returns (to_read_sheet_bytes book) r left = (r ≡ sheet_bytes_call book) × (left ≡ record { books = []; others = [] })
Returns (to_read_stations book list) r left =
    (r ≡ (stations_call book list).answer) × (left ≡ record { books = []; others = (stations_call book list).bytes ∷ [] })
Returns (to_read_record book place out) r left =
    (r ≡ (record_call book place out).answer) × (left ≡ record { books = []; others = (record_call book place out).bytes ∷ [] })
Returns (to_write_file book file) r left = (r ≡ (write_call book file).answer) × (left ≡ record { books = []; others = (write_call book file).bytes ∷ [] })
Returns (to_check_file file) r left = (r ≡ check_file_call file) × (left ≡ record { books = []; others = [] })
Returns (to_find_entry night day place found) r left =
    (r ≡ (found_call night day place found).answer) × (left ≡ record { books = []; others = (found_call night day place found).bytes ∷ [] })
Returns (to_enter_file book file answers) r left =
    (r ≡ (enter_call book file answers).answer) × (left ≡ record { books = (enter_call book file answers).book ∷ []; others = (enter_call book file answers).answers ∷ [] })
Returns (to_salvage damaged fresh skipped kept counts) r left =
    let s = salvage_call damaged fresh skipped kept counts in
    (r ≡ s.answer) × (left ≡ record { books = []; others = s.fresh ∷ s.skipped ∷ s.kept ∷ s.counts ∷ [] })

-- ════ an answer taken apart: refusal + 256 · number, or the length of a file, a multiple of 128
-- the refusal, below 128, as the header's DOMBRELAT_REFUSAL gives it: 0 where the call is not refused. −1, no proposal, and −2, the answer that a distance does not agree, stand by themselves; what is said below of refusals holds of both
unfoldable pub refusal_in : ℤ → ℤ
refusal_in (pos n) = pos (n % 128)
refusal_in (negsuc n) = negsuc n

-- the answer of a call that is not refused: 0 but for those that count, and the one that gives a length
unfoldable pub unrefused : Asked → ℤ
unrefused (to_open list book) = pos 0
unrefused (to_edit book c) = pos 0
unrefused (to_check book x m) = pos 0
unrefused (to_check_sheet book x m sheet) = pos 0
unrefused (to_check_distance book x m d) = pos 0
unrefused (to_propose book x m) = pos 0
unrefused (to_read_unknowns book) = numbered (unknown_count (book_of book).network.stations)
unrefused (to_read_sheet_bytes book) = numbered (8 * room (book_of book).network (book_of book).places)
unrefused (to_read_stations book list) = numbered (book_of book).network.count
unrefused (to_read_record book place out) = pos 0
unrefused (to_write_file book file) = pos (128 * length (book_entries (book_of book)))
unrefused (to_check_file file) = pos 0
unrefused (to_find_entry night day place found) = pos 0
unrefused (to_enter_file book file answers) = pos 0
unrefused (to_salvage damaged fresh skipped kept counts) = pos 0

-- ════ the demand
pub record Demand (asked : Asked) : Type 0 where
  -- every call answers on every input
  pub answers : (r : ℤ) × (left : Left) × Returns asked r left
  -- an answer without a refusal is just the number or the length that the call gives
  pub told : (r : ℤ) (left : Left) → Returns asked r left → refusal_in r ≡ pos 0 → r ≡ unrefused asked
  -- whatever answer has a refusal leaves the book's bytes, its history among them, and every other slice as they came
  pub refused : (r : ℤ) (left : Left) → Returns asked r left → (refusal_in r ≡ pos 0 → ⊥) → left ≡ given asked
  -- an accepted opening or edit, or a file entered, leaves bytes that the next call takes
  pub accepted : (left : Left) (book : List ℕ) → Returns asked (pos 0) left → left.books ≡ book ∷ [] → bytes_fit book ≡ true

abbrev pub Demand1 : Type 0
Demand1 = (asked : Asked) → Demand asked
