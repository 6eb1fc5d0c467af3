-- The check of a book and lent bytes: x, M and, where one is lent, the sheet. Assumes nothing.
use Rattle.std.specs.Prelude.{ℕ, ◌+◌, ◌*◌, ◌/◌, ◌%◌, Bool, ◌&&◌, List, eqb, leb, length, ℤ, pos, Ok, Err}
use Rattle.words.specs.Runs.{words_at}
use Rattle.acceptance.specs.Judge.{answer_number, answer_unknown, Answer}
use Rattle.book.specs.declared.Book.{Book}
use Rattle.sheet.specs.Sheet.{room}
use Rattle.checks.specs.Checks.{checked}

-- the words of a lent slice, and whether it holds whole words
abbrev pub all_words : List ℕ → List ℤ
all_words s = words_at s 0 (length s / 8)

abbrev pub is_whole : List ℕ → Bool
is_whole s = eqb (length s % 8) 0

-- what a book can ask for at most, in bytes: 48 corrections, and a matrix of 48 by 48
abbrev pub x_bytes : ℕ
x_bytes = 384

abbrev pub m_bytes : ℕ
m_bytes = 18432

-- whole words, and no more than that
abbrev pub sizes_fit : List ℕ → List ℕ → Bool
sizes_fit x m = is_whole x && is_whole m && leb (length x) x_bytes && leb (length m) m_bytes

-- the largest answer: a number up to 16, and the number of an unknown, which is at most that of the 96 components
abbrev pub answer_most : ℕ
answer_most = 24592

-- "A refusal returns its number, and for 11 also the first unknown without a chain": 11 + 256 · the unknown
unfoldable pub answer_word : Answer → ℤ
answer_word a = pos (answer_number a + 256 * answer_unknown a)

-- the check of lent x and M: "test 1's lengths count whole words; a length that is not a multiple of 8 fails it"
unfoldable pub checked_lent : Book → List ℕ → List ℕ → Bool → Answer
checked_lent b x m room = checked b (all_words x) (all_words m) (is_whole x && is_whole m && room)

-- ════ with a sheet
-- "the sheet, where one is lent, has room"
abbrev pub sheet_fits : Book → List ℕ → Bool
sheet_fits b sheet = is_whole sheet && leb (room b.network b.places) (length sheet / 8)

unfoldable pub on_accepted : Answer → List ℕ → List ℕ → List ℕ
on_accepted (Ok u) new old = new
on_accepted (Err refusal) new old = old
