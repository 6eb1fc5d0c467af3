-- Demand 2 once more, over bytes, the statement alone (specs/Demand2Holds.antt proves it): what `dombrelat_check` and `dombrelat_check_sheet` answer to any bytes, and the
-- lent sheet afterwards. Assumes nothing.
--   check_call, sheet_call   specs/CheckCalls.antt              what the C calls' contracts promise
--   book_of, bytes_fit       layout, specs/Bytes.antt           the book that bytes hold, and what 25 tests
--   all_words, is_whole      lent_checks, specs/LentChecks.antt  the words of a slice, and whether it holds whole words
--   words.Demand           checks, specs/Demand2.antt         the answer to x and M by its number and unknown: the seven tests, what follows from acceptance, completeness
use Rattle.std.specs.Prelude.{ℕ, ◌+◌, ◌*◌, ◌<◌, ◌≤◌, ◌≡◌, Bool, true, false, ◌&&◌, List, get_or, ℤ, pos}
use Rattle.words.specs.Runs.{put_words}
use Rattle.book.specs.declared.Book.{Book}
use Rattle.sheet.specs.Sheet.{sheet_words, room}
use Rattle.checks.specs.Demand2 as words
use Rattle.lent_checks.specs.LentChecks.{all_words, is_whole, sheet_fits}
use Rattle.layout.specs.Bytes.{book_of, bytes_fit}
use Rattle.dombrelat.specs.CheckCalls.{check_call, sheet_call}

-- the answer r to lent bytes of x and M: the number and, for 11, 256 times the unknown. "test 1's lengths count whole words; a length that is not a multiple of 8 fails it"
pub record AsDemanded (b : Book) (x m : List ℕ) (fits : Bool) (r : ℤ) : Type 0 where
  pub number : ℕ
  pub unknown : ℕ
  pub below : number < 256
  pub word : r ≡ pos (number + 256 * unknown)
  pub judged : words.Demand b (all_words x) (all_words m) (is_whole x && is_whole m && fits) number unknown

-- of book bytes s that 25 does not refuse, and lent bytes of x, M and a sheet
pub record Demand (s x m sheet : List ℕ) : Type 0 where
  -- without a sheet, and with one
  pub checked : AsDemanded (book_of s) x m true (check_call s x m)
  pub sheet_checked : AsDemanded (book_of s) x m (sheet_fits (book_of s) sheet) (sheet_call s x m sheet).answer
  -- an accepted pair becomes a sheet, its words at the front of the bytes
  pub written : (sheet_call s x m sheet).answer ≡ pos 0
      → (sheet_call s x m sheet).sheet ≡ put_words sheet 0 (sheet_words (book_of s).network (book_of s).places (all_words x) (all_words m))
  -- "Words beyond stay"
  pub beyond : (j : ℕ) → 8 * room (book_of s).network (book_of s).places ≤ j → get_or (sheet_call s x m sheet).sheet j 0 ≡ get_or sheet j 0
  -- "A refusal … changes neither book, history nor sheet"
  pub kept : ((sheet_call s x m sheet).answer ≡ pos 0 → ⊥) → (sheet_call s x m sheet).sheet ≡ sheet

-- 25 before all others, and it writes nothing
pub record Unfit (s x m sheet : List ℕ) : Type 0 where
  pub checked : check_call s x m ≡ pos 25
  pub sheet_checked : (sheet_call s x m sheet).answer ≡ pos 25
  pub kept : (sheet_call s x m sheet).sheet ≡ sheet

abbrev pub Demand2 : Type 0
Demand2 = (s x m sheet : List ℕ) → (bytes_fit s ≡ true → Demand s x m sheet) × (bytes_fit s ≡ false → Unfit s x m sheet)
