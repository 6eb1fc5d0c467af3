-- The book is sound before each record: it comes so, and `level` leaves it so. Assumes nothing.
use Rattle.std.specs.Prelude.{◌≡◌, true}
use Rattle.book.specs.Book.{sound}
use Rattle.test_check_cases.proofs.nine_degrees.ten.Given as goal

abbrev pub invariant-loop-i : goal.invariant-loop-i
invariant-loop-i l = sound l.book ≡ true
