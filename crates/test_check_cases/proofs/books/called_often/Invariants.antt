-- The book is sound before each call: it comes so, and `called` leaves it so. Assumes nothing.
use Rattle.std.specs.Prelude.{◌≡◌, true}
use Rattle.book.specs.Book.{sound}
use Rattle.test_check_cases.proofs.books.called_often.Given as goal

abbrev pub invariant-loop : goal.invariant-loop
invariant-loop l = sound l.book ≡ true
