-- Calls in rows of 16 words: the call (1 enter, 2 strike, 3 undo), the place, and the 14 words of a record (network, specs/RecordWords.antt).
-- Words that a call does not use are not looked at. A row whose first word is none of 1 to 3 names no call. Assumes nothing.
use Rattle.std.specs.Prelude.{ℕ, zero, suc, ◌+◌, ◌*◌, List, Option, Some, None, ℤ, pos, negsuc, get_or}
use Rattle.integers.specs.Tables.{tabulate}
use Rattle.words.specs.Signed.{index_in}
use Rattle.network.specs.declared.Record.{Record}
use Rattle.network.specs.RecordWords.{record_length, record_in}
use Rattle.book.specs.declared.Change.TheVariants.{Enter, Strike}
use Rattle.book.specs.declared.Call.{Call}
use Rattle.book.specs.declared.Call.TheVariants.{Edit, Undo}

-- ════ what a row does to a machine that takes calls: one that names no call is answered −1 and changes nothing
unfoldable pub row_next : {S : Type 0} → (S → Call → S) → S → Option Call → S
row_next next s (Some c) = next s c
row_next next s None = s

unfoldable pub row_says : {S : Type 0} → (S → Call → ℕ) → S → Option Call → ℤ
row_says says s (Some c) = pos (says s c)
row_says says s None = negsuc 0

-- ════ rows in words
unfoldable pub row_of : ℕ → ℤ → Record → Option Call
row_of zero p r = Some (Edit p (Enter r))
row_of (suc zero) p r = Some (Edit p Strike)
row_of (suc (suc zero)) p r = Some Undo
row_of (suc (suc (suc k))) p r = None

-- the calls that a row can name
abbrev pub row_calls : ℕ
row_calls = 3

-- the row whose first word is at index at
abbrev pub row_in : List ℤ → ℕ → Option Call
row_in w at = row_of (index_in (get_or w at (pos 0)) row_calls) (get_or w (at + 1) (pos 0)) (record_in w (at + 2))

-- the words of a row: the call, the place, and those of a record
abbrev pub row_length : ℕ
row_length = 2 + record_length

-- the first n rows
unfoldable pub rows_in : List ℤ → ℕ → List (Option Call)
rows_in w n = tabulate n (λ k. row_in w (k * row_length))
