-- The book is sound before each line: `opened` gives it so, and `enter_line` leaves it so. Assumes nothing.
use Rattle.std.specs.Prelude.{◌≡◌, true}
use Rattle.book.specs.Book.{sound}
use Rattle.test_surveys.proofs.records.book_of.Given as goal

abbrev pub invariant-loop-line : goal.invariant-loop-line
invariant-loop-line l =
    (goal.iterator-loop-line).can_next l.line-iterator ×
    (goal.iterator-loop-line).is_finite l.line-iterator ×
    (sound l.b ≡ true)
