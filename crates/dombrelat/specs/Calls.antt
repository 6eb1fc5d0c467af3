-- What the C calls that open and edit a book answer, and the lent bytes afterwards. Assumes nothing.
use Rattle.std.specs.Prelude.{ℕ, ◌/◌, ◌%◌, cond, List, leb, eqb, length, ℤ, pos}
use Rattle.words.specs.Runs.{words_at}
use Rattle.book.specs.declared.Book.{Book}
use Rattle.book.specs.Outcome.{Outcome}
use Rattle.book.specs.declared.Call.{Call}
use Rattle.book.specs.Book.{opening, outcome}
use Rattle.layout.specs.Bytes.{book_of, bytes_fit}
use Rattle.layout.specs.Layout.{book_bytes}
use Rattle.lent_edits.specs.LentEdits.{bytes_left}

-- the answer of a call, and the lent bytes as it leaves them: those of the book, or of a slice that it reads into
pub record Returned : Type 0 where
  pub answer : ℤ
  pub bytes : List ℕ

-- "A refusal returns its number", and writes nothing
abbrev pub refused_with : ℕ → List ℕ → Returned
refused_with n s = record { answer = pos n; bytes = s }

-- an answer with the book that is left: it is written where the call is not refused
abbrev pub answered_with : List ℕ → Outcome → Returned
answered_with s e = record { answer = pos e.refusal; bytes = bytes_left s e }

-- a call on the book that the bytes hold; 25 before all others
unfoldable pub through : List ℕ → (Book → Outcome) → Returned
through s f = cond (bytes_fit s) (answered_with s (f (book_of s))) (refused_with 25 s)

-- an edit or an undo
abbrev pub edit_call : List ℕ → Call → Returned
edit_call s c = through s (λ b. outcome b c)

-- the bytes that it leaves, and its answer
abbrev pub bytes_next : List ℕ → Call → List ℕ
bytes_next s c = (edit_call s c).bytes

abbrev pub bytes_says : List ℕ → Call → ℤ
bytes_says s c = (edit_call s c).answer

-- an opening, on the bytes of a station list: 25 where the book bytes are too short; a list that is not of whole stations, 32 bytes each, is refused with 1
unfoldable pub open_call : List ℕ → List ℕ → Returned
open_call list s =
    cond (leb book_bytes (length s)) (cond (eqb (length list % 32) 0) (answered_with s (opening (words_at list 0 (length list / 8)))) (refused_with 1 s)) (refused_with 25 s)
