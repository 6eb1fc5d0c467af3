-- A file entered into a book: each entry, in its order, is judged and obeyed as a call of its own. Document 02, request 6: "Other values are judged when entered." Assumes nothing.
use Rattle.std.specs.Prelude.{ℕ, ◌*◌, ◌/◌, cond, List, [], ◌∷◌, map, leb, length, get_or, ℤ, pos, Result, Ok, Err}
use Rattle.words.specs.Signed.{eq_z}
use Rattle.words.specs.Runs.{put_words}
use Rattle.network.specs.RecordWords.{record_in}
use Rattle.book.specs.declared.Change.{Change}
use Rattle.book.specs.declared.Change.TheVariants.{Enter, Strike}
use Rattle.book.specs.declared.Call.{Call}
use Rattle.book.specs.declared.Call.TheVariants.{Edit}
use Rattle.book.specs.Book.{book_says, outcome}
use Rattle.book.specs.Run.{final, answers}
use Rattle.layout.specs.Bytes.{book_of}
use Rattle.lent_edits.specs.LentEdits.{bytes_left}
use Rattle.files.specs.Files.{reads, entries_of}
use Rattle.files.specs.declared.FileRefusal.{FileRefusal}
use Rattle.files.specs.declared.FileRefusal.TheVariants.{NoRoom, Unreadable}

-- ════ the call that an entry asks for
-- the words of its record as a book has them: without the place, and with the antenna heights 0
unfoldable pub record_words_in : List ℤ → List ℤ
record_words_in e =
    let w : ℕ → ℤ = λ i. get_or e i (pos 0) in
    w 0 ∷ w 2 ∷ w 3 ∷ w 4 ∷ w 5 ∷ w 6 ∷ w 7 ∷ w 8 ∷ w 9 ∷ w 10 ∷ w 11 ∷ w 12 ∷ pos 0 ∷ pos 0 ∷ []

-- "kind (1 baseline, 2 height difference, 3 strike)"
unfoldable pub change_in : List ℤ → Change
change_in e = cond (eq_z (get_or e 0 (pos 0)) (pos 3)) Strike (Enter (record_in (record_words_in e) 0))

unfoldable pub call_in : List ℤ → Call
call_in e = Edit (get_or e 1 (pos 0)) (change_in e)

unfoldable pub calls_in : List ℕ → List Call
calls_in file = map call_in (entries_of file)

-- ════ calls on the bytes s of a book, one after the other
abbrev pub left_by : List ℕ → Call → List ℕ
left_by s c = bytes_left s (outcome (book_of s) c)

abbrev pub said_to : List ℕ → Call → ℤ
said_to s c = pos (book_says (book_of s) c)

-- the book's bytes after all entries, and the answers to them
abbrev pub entered_book : List ℕ → List ℕ → List ℕ
entered_book s file = final left_by s (calls_in file)

abbrev pub entered_answers : List ℕ → List ℕ → List ℤ
entered_answers s file = answers left_by said_to s (calls_in file)

-- ════ the answer, given the room for answers in bytes: one word each is asked, and a file that reads
unfoldable pub enter_answer : List ℕ → ℕ → Result (Unit {0}) FileRefusal
enter_answer file room = cond (leb (8 * (length file / 128)) room) (cond (reads file) (Ok tt) (Err Unreadable)) (Err NoRoom)

-- the book's bytes and the answers afterwards
unfoldable pub book_left : Result (Unit {0}) FileRefusal → List ℕ → List ℕ → List ℕ
book_left (Ok u) s file = entered_book s file
book_left (Err r) s file = s

unfoldable pub answers_left : Result (Unit {0}) FileRefusal → List ℕ → List ℕ → List ℕ → List ℕ
answers_left (Ok u) s file before = put_words before 0 (entered_answers s file)
answers_left (Err r) s file before = before
