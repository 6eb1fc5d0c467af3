-- By whether the record is empty. Assumes nothing.
use mathlib.Core.Path.{sym, ◌∙◌}
use Rattle.book_files.specs.Writing.{record_entries}
use Rattle.book_files.proofs.writing.entry_count.Goals as goal

pub returns-then-is_empty : goal.returns-then-is_empty
unfolding record_entries
returns-then-is_empty c = rw (sym c.is_empty.ensures ∙ c.if-is_empty.true)

pub returns-else-is_empty : goal.returns-else-is_empty
unfolding record_entries
returns-else-is_empty c = rw (sym c.is_empty.ensures ∙ c.if-is_empty.false)
