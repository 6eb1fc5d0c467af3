-- By whether the file reads. Assumes nothing.
use mathlib.Core.Path.{sym, ◌∙◌}
use Rattle.dombrelat.proofs.Filings.{check_reads, check_unread}
use Rattle.dombrelat.proofs.filing.dombrelat_check_file.Goals as goal

pub returns-then-holds_file : goal.returns-then-holds_file
returns-then-holds_file c = check_reads _ (sym c.holds_file.ensures ∙ c.if-holds_file.true)

pub returns-else-holds_file : goal.returns-else-holds_file
returns-else-holds_file c = check_unread _ (sym c.holds_file.ensures ∙ c.if-holds_file.false)
