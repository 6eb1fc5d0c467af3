-- The loop's invariant: the book is sound, as `apply` leaves it. Assumes nothing.
use Rattle.std.proofs.Common.{◌≡◌, true}
use Rattle.book.specs.Book.{sound}
use Rattle.test_book_runs.proofs.series.Given as goal

abbrev pub invariant-loop-place : goal.invariant-loop-place
invariant-loop-place l = sound l.book ≡ true
