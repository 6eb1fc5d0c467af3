-- The loop writes the entries of the places passed (`Wrote`). Assumes nothing.
use Rattle.layout.specs.Bytes.{book_of}
use Rattle.book_files.specs.WritingLaws.{Wrote}
use Rattle.book_files.proofs.writing.write_entries.Given as goal

abbrev pub invariant-loop-p : goal.invariant-loop-p
invariant-loop-p l = Wrote l.initial.file (book_of l.book).places l.p l.at l.file
