-- The loop makes the calls of the entries passed (`EnteredSome`). Assumes nothing.
use Rattle.book_files.specs.EnteringLaws.{EnteredSome}
use Rattle.book_files.proofs.entering.enter_entries.Given as goal

abbrev pub invariant-loop-i : goal.invariant-loop-i
invariant-loop-i l = EnteredSome l.initial.book l.file l.initial.answers l.i l.book l.answers
