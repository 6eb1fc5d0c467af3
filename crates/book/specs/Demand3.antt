-- Demand 3 of document 01, the statement alone (specs/Demand3Holds.antt proves it). It measures the book by the plain ledger of specs/Ledger.antt:
-- from the book that an accepted opening gives, for every list of calls ("enters, strikes and undos", document 02's request 3), with any arguments,
-- refused ones among them. Assumes nothing.
--   opened_book, book_next, book_says   specs/Book.antt     the book's calls: what their contracts promise
--   empty_ledger, ledger_next, ledger_says  specs/Ledger.antt   the ledger; standing: its record at a place; ledger_normals: its N and u, worked out afresh
--   final, answers                   specs/Run.antt      the state after a run, and the answers along it
--   row_next, row_says                 specs/Rows.antt     a row is a call (Some), or words that name none (None): answered −1, and nothing changes
use Rattle.std.specs.Prelude.{ℕ, ◌<◌, ◌≤◌, ◌≡◌, true, List, Option, Some, None, ◌↔◌, ℤ, pos, length, get_or, take}
use Rattle.network.specs.Units.{place_count}
use Rattle.network.specs.Stations.{network_of, opens}
use Rattle.network.specs.Records.{record_at}
use Rattle.network.specs.declared.Network.{Network}
use Rattle.book.specs.declared.Book as book
use Rattle.book.specs.declared.Call.{Call}
use Rattle.book.specs.declared.Call.TheVariants.{Undo}
use Rattle.book.specs.Run.{final, answers}
use Rattle.book.specs.Rows.{row_next, row_says}
use Rattle.book.specs.Book.{opened_book, book_next, book_says}
use Rattle.book.specs.Book as spec
use Rattle.book.specs.Ledger.{Ledger, empty_ledger, standing, ledger_next, ledger_says, ledger_normals}

-- the book and the ledger after a run, and their answers along it
abbrev pub book_after : Network → List (Option Call) → book.Book
book_after net rows = final (row_next book_next) (opened_book net) rows

abbrev pub book_answers : Network → List (Option Call) → List ℤ
book_answers net rows = answers (row_next book_next) (row_says book_says) (opened_book net) rows

abbrev pub ledger_after : Network → List (Option Call) → Ledger
ledger_after net rows = final (row_next (ledger_next net)) empty_ledger rows

abbrev pub ledger_answers : Network → List (Option Call) → List ℤ
ledger_answers net rows = answers (row_next (ledger_next net)) (row_says (ledger_says net)) empty_ledger rows

-- the answers `said` to the rows, the book `after` the first k of them, for each k, and the book that all of them leave, measured by the ledger
pub record Demand (net : Network) (rows : List (Option Call)) (said : List ℤ) (after : ℕ → book.Book) (left : book.Book) : Type 0 where
  -- every answer, refusals with it, is the ledger's
  pub answered : said ≡ ledger_answers net rows
  -- the record in force at every place is the ledger's
  pub records : (p : ℕ) → p < place_count → record_at left.places p ≡ standing (ledger_after net rows).edits p
  -- N and u kept are those of the ledger's records, worked out afresh
  pub normals : left.normals ≡ ledger_normals net (ledger_after net rows)
  -- all along the run the book's own history holds just as many edits as the ledger's count
  pub history : (k : ℕ) → k ≤ length rows → (after k).journal.count ≡ (ledger_after net (take k rows)).count
  -- so an undo was refused exactly when the book's history had nothing left to take back
  pub undone : (k : ℕ) → k < length rows → get_or rows k None ≡ Some Undo → (get_or said k (pos 0) ≡ pos 8) ↔ ((after k).journal.count ≡ 0)
  -- the last of these books is the one that is left, and one that the next call takes
  pub last : after (length rows) ≡ left
  pub sound : spec.sound left ≡ true

abbrev pub Demand3 : Type 0
Demand3 =
    (list : List ℤ) → opens list ≡ true → (rows : List (Option Call))
    → Demand (network_of list) rows (book_answers (network_of list) rows) (λ k. book_after (network_of list) (take k rows)) (book_after (network_of list) rows)
