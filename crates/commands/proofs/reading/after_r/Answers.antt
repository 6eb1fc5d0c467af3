-- R alone is unreadable (`after_none`); else the fields after it are an entry (`after-some`). Assumes nothing.
use Rattle.std.proofs.Common.{◌∙◌}
use Rattle.commands.specs.CommandLaws.{after_none, after-some}
use Rattle.commands.proofs.reading.after_r.Goals as goal

pub returns-then-line-end : goal.returns-then-line-end
returns-then-line-end c = after_none _ _ c.field_end-end.ensures c.if-line-end.true

pub returns : goal.returns
returns c = c.record_line.ensures ∙ after-some _ _ c.field_end-end.ensures c.if-line-end.false
