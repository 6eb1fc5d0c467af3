-- A book in lent bytes: its words at the start of them; and what 25 tests of lent bytes. Assumes nothing.
use Rattle.std.specs.Prelude.{ℕ, Bool, ◌&&◌, List, leb, length, ℤ}
use Rattle.words.specs.Runs.{words_at, put_words}
use Rattle.lists.specs.Same.{same_entries}
use Rattle.book.specs.declared.Book.{Book}
use Rattle.book.specs.Book.{sound}
use Rattle.layout.specs.Layout.{book_length, book_bytes, book_words, book_in}

abbrev pub words_of : List ℕ → List ℤ
words_of s = words_at s 0 book_length

-- the book that bytes hold
abbrev pub book_of : List ℕ → Book
book_of s = book_in (words_of s)

-- bytes with a book written at their start: those beyond stay
abbrev pub put_book : List ℕ → Book → List ℕ
put_book s b = put_words s 0 (book_words b)

-- the words are those that writing the book gives: every kind and every unused word by the layout
abbrev pub laid_out : List ℕ → Bool
laid_out s = same_entries book_length (words_of s) (book_words (book_of s))

-- "25 | C calls, before all others | lent book bytes too short, or … breaking a rule here (also in what the history holds to restore), or N or u not
-- that of the records": bytes that pass
unfoldable pub bytes_fit : List ℕ → Bool
bytes_fit s = leb book_bytes (length s) && laid_out s && sound (book_of s)
