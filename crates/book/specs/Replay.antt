-- What a replay of rows of words promises: a list that does not open is refused as an opening is, and otherwise the rows are answered and the
-- book is left as demand 3 says. Assumes nothing.
use Rattle.std.specs.Prelude.{ℕ, ◌/◌, min, ◌≡◌, true, false, List, Option, ℤ, length, take, drop}
use Rattle.network.specs.Stations.{network_of, opens, open_no}
use Rattle.book.specs.Outcome.{Outcome}
use Rattle.book.specs.declared.Book.{Book}
use Rattle.book.specs.declared.Call.{Call}
use Rattle.book.specs.Run.{final, answers}
use Rattle.book.specs.Book.{opening, book_says, book_next}
use Rattle.book.specs.Book as spec
use Rattle.book.specs.Rows.{row_length, rows_in, row_next, row_says}
use Rattle.book.specs.Demand3.{Demand, book_after}

-- one row: its answer, and the book afterwards
pub record Answers (b : Book) (row : Option Call) (answer : ℤ) (left : Book) : Type 0 where
  pub says : answer ≡ row_says book_says b row
  pub leaves : left ≡ row_next book_next b row
  pub sound : spec.sound left ≡ true

-- the first n rows, answered in a list
pub record Ran (b : Book) (words : List ℤ) (n : ℕ) (before after : List ℤ) (last : Book) : Type 0 where
  pub left : last ≡ final (row_next book_next) b (rows_in words n)
  pub answered : take n after ≡ answers (row_next book_next) (row_says book_says) b (rows_in words n)
  pub beyond : drop n after ≡ drop n before

-- as many rows as the words have whole, and the answers have room for
abbrev pub row_count : List ℤ → List ℤ → ℕ
row_count words answers = min (length words / row_length) (length answers)

-- of a station list, the words of the rows, the answers before and after, and what is given back
pub record Replayed (list words before after : List ℤ) (e : Outcome) : Type 0 where
  pub refusal : e.refusal ≡ open_no list
  pub demand : opens list ≡ true →
      Demand (network_of list) (rows_in words (row_count words before)) (take (row_count words before) after)
      (λ k. book_after (network_of list) (take k (rows_in words (row_count words before)))) e.book
  -- the whole book, its journal with it, is what the calls leave one after the other
  pub left : opens list ≡ true → e.book ≡ book_after (network_of list) (rows_in words (row_count words before))
  -- answers beyond the rows stay
  pub beyond : drop (row_count words before) after ≡ drop (row_count words before) before
  pub unopened : opens list ≡ false → (e ≡ opening list) × (after ≡ before)
