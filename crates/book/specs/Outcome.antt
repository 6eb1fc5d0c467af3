-- What a call answers, by its number of the table, and the book afterwards. Assumes nothing.
use Rattle.std.specs.Prelude.{ℕ}
use Rattle.book.specs.declared.Book.{Book}

pub record Outcome : Type 0 where
  pub refusal : ℕ
  pub book : Book
