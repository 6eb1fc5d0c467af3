-- Demand 3 once more, over bytes, the statement alone (specs/Demand3Holds.antt proves it): any run of C enters, strikes and undos, each given the bytes that
-- the call before it left, from an accepted opening on, answers as the ledger, and leaves bytes that hold the ledger's records, N and u. Assumes nothing.
--   bytes_next, bytes_says, open_call  specs/Calls.antt   what the C calls' contracts promise: the bytes left and the answer
--   book_of, bytes_fit   specs/Bytes.antt          the book that bytes hold, and what 25 tests
--   Demand             book, specs/Demand3.antt  answers and a book measured by the ledger
--   final, answers     book, specs/Run.antt      the state after a run, and the answers along it
use Rattle.std.specs.Prelude.{ℕ, ◌/◌, ◌≤◌, ◌≡◌, true, List, map, length, get_or, take, ℤ, pos, Some}
use Rattle.words.specs.Runs.{words_at}
use Rattle.network.specs.Stations.{network_of}
use Rattle.book.specs.declared.Call.{Call}
use Rattle.book.specs.Run.{final, answers}
use Rattle.book.specs.Demand3 as ledger
use Rattle.layout.specs.Bytes.{book_of, bytes_fit}
use Rattle.layout.specs.Layout.{book_bytes}
use Rattle.dombrelat.specs.Calls.{bytes_next, bytes_says, open_call}

-- the bytes after a run, and its answers
abbrev pub bytes_after : List ℕ → List ℕ → List Call → List ℕ
bytes_after list s calls = final bytes_next (open_call list s).bytes calls

abbrev pub bytes_answers : List ℕ → List ℕ → List Call → List ℤ
bytes_answers list s calls = answers bytes_next bytes_says (open_call list s).bytes calls

-- of the bytes of a station list, the bytes lent for a book, and the calls
pub record Demand (list s : List ℕ) (calls : List Call) : Type 0 where
  -- every answer, the records, N and u that the bytes hold at the end, and the history that they hold all along are the ledger's
  pub ledger :
      ledger.Demand (network_of (words_at list 0 (length list / 8))) (map Some calls) (bytes_answers list s calls)
      (λ k. book_of (bytes_after list s (take k calls))) (book_of (bytes_after list s calls))
  -- the bytes left are a book that the next call takes
  pub fits : bytes_fit (bytes_after list s calls) ≡ true
  -- bytes beyond it stay
  pub beyond : (j : ℕ) → book_bytes ≤ j → get_or (bytes_after list s calls) j 0 ≡ get_or s j 0

abbrev pub Demand3 : Type 0
Demand3 = (list s : List ℕ) → (open_call list s).answer ≡ pos 0 → (calls : List Call) → Demand list s calls
