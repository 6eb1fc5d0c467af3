-- Openings, edits and undos on lent bytes: the number, and the bytes afterwards. Assumes nothing.
use Rattle.std.specs.Prelude.{ℕ, ◌≡◌, true, List, ℤ}
use Rattle.book.specs.Outcome.{Outcome}
use Rattle.book.specs.declared.Call.{Call}
use Rattle.book.specs.Calls.{unless}
use Rattle.book.specs.Book.{opening, outcome}
use Rattle.layout.specs.Bytes.{book_of, put_book, bytes_fit}

-- the bytes that a call leaves: its book is written where the call is not refused
abbrev pub bytes_left : List ℕ → Outcome → List ℕ
bytes_left s e = unless e.refusal s (put_book s e.book)

-- an edit or an undo on bytes s that hold a book: its number n, and the bytes t afterwards, which hold the book that the call leaves
pub record Applies (s : List ℕ) (c : Call) (n : ℕ) (t : List ℕ) : Type 0 where
  pub number : n ≡ (outcome (book_of s) c).refusal
  pub bytes : t ≡ bytes_left s (outcome (book_of s) c)
  pub fits : bytes_fit t ≡ true
  pub reads : book_of t ≡ (outcome (book_of s) c).book

-- an opening on the words of a station list: its number n, and the bytes t afterwards, which hold the opened book where it is not refused
pub record Opens (list : List ℤ) (s : List ℕ) (n : ℕ) (t : List ℕ) : Type 0 where
  pub number : n ≡ (opening list).refusal
  pub bytes : t ≡ bytes_left s (opening list)
  pub fits : n ≡ 0 → bytes_fit t ≡ true
  pub reads : n ≡ 0 → book_of t ≡ (opening list).book
