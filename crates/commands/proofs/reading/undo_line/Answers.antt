-- U alone undoes (`undo_none`); with more fields it is unreadable (`undo_some`). Assumes nothing.
use Rattle.commands.specs.CommandLaws.{undo_none, undo_some}
use Rattle.commands.proofs.reading.undo_line.Goals as goal

pub returns-then-line-end : goal.returns-then-line-end
returns-then-line-end c = undo_none _ _ c.field_end-end.ensures c.if-line-end.true

pub returns-else-line-end : goal.returns-else-line-end
returns-else-line-end c = undo_some _ _ c.field_end-end.ensures c.if-line-end.false
