-- The loop counts the entries of the places passed. Assumes nothing.
use mathlib.Core.Path.{◌≡◌}
use lib.ListN.{length}
use Rattle.layout.specs.Bytes.{book_of}
use Rattle.book_files.specs.Writing.{entries_below}
use Rattle.book_files.proofs.writing.count_entries.Given as goal

abbrev pub invariant-loop-p : goal.invariant-loop-p
invariant-loop-p l = (l.n ≡ length (entries_below (book_of l.book).places l.p))
