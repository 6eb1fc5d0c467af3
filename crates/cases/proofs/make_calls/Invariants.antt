-- The loop's invariant: the book is that after the first i rows, and the first i answers are those to them.
use mathlib.Core.Path.{◌≡◌}
use mathlib.Core.Bool.{true}
use lib.IntN.{pos}
use lib.ListN.{length, take}
use Rattle.lists.specs.Filling.{Mapped}
use Rattle.book.specs.Book.{sound}
use Rattle.cases.specs.Script.{rows_named}
use Rattle.cases.proofs.Calls.{after, said}
use Rattle.cases.proofs.make_calls.Given as goal

abbrev pub invariant-loop-i : goal.invariant-loop-i
invariant-loop-i l = Mapped (pos 0) (length l.initial.answers) (said l.initial.book (rows_named l.numbers)) l.initial.answers l.answers l.i × (l.book ≡ after l.initial.book (take l.i (rows_named l.numbers))) × (sound l.book ≡ true)
