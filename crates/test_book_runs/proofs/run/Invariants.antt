-- The loop's invariant: the book is sound, as the opening gave it and `step` leaves it. Assumes nothing.
use Rattle.std.proofs.Common.{◌≡◌, true}
use Rattle.book.specs.Book.{sound}
use Rattle.test_book_runs.proofs.run.Given as goal

abbrev pub invariant-loop : goal.invariant-loop
invariant-loop l = sound l.side.book ≡ true
