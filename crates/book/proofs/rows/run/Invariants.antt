-- The loop's invariant: the book is that after the first k rows, and the first k answers are those to them.
use Prim.Native.Nat.{ℕ}
use mathlib.Core.Path.{◌≡◌}
use mathlib.Core.Bool.{true}
use mathlib.Core.List.{List}
use lib.IntN.{ℤ, pos}
use lib.ListN.{length, take, get_or}
use Rattle.lists.specs.Filling.{Mapped}
use Rattle.book.specs.declared.Book.{Book}
use Rattle.book.specs.Run.{final, answers}
use Rattle.book.specs.Book.{book_says, book_next, sound}
use Rattle.book.specs.Rows.{rows_in, row_next, row_says}
use Rattle.book.proofs.rows.run.Given as goal

-- what row k is answered
abbrev pub said : Book → List ℤ → ℕ → ℕ → ℤ
said b w n k = get_or (answers (row_next book_next) (row_says book_says) b (rows_in w n)) k (pos 0)

abbrev pub invariant-loop-k : goal.invariant-loop-k
invariant-loop-k l = Mapped (pos 0) (length l.initial.answers) (said l.initial.book l.calls l.n) l.initial.answers l.answers l.k × (l.book ≡ final (row_next book_next) l.initial.book (take l.k (rows_in l.calls l.n))) × (sound l.book ≡ true)
