-- `holds_file` walks back: the entries not yet passed are linked exactly where the file reads. Assumes nothing.
use Rattle.std.proofs.Common.{sym, ◌∙◌, arith}
use Rattle.files.proofs.Tests.{reads_odd, reads-even, none_left}
use Rattle.files.proofs.Loops.{linked_turn, linked_no}
use Rattle.files.proofs.reading.holds_file.Goals as goal

pub returns-then-file-ne0 : goal.returns-then-file-ne0
returns-then-file-ne0 c = reads_odd _ (omega arith) c.if-file-ne0.true

pub loop-n-init : goal.loop-n-init
loop-n-init c = reads-even _ (omega arith) c.if-file-ne0.false

pub returns-then-not-linked_at : goal.returns-then-not-linked_at
returns-then-not-linked_at c = linked_no _ c.loop-n.n (omega arith) c.loop-n.invariant (sym c.linked_at.ensures ∙ c.if-not-linked_at.true)

pub loop-n-preserved : goal.loop-n-preserved
loop-n-preserved c = linked_turn _ c.loop-n.n (omega arith) c.loop-n.invariant (sym c.linked_at.ensures ∙ c.if-not-linked_at.false)

pub returns : goal.returns
returns c = none_left _ c.loop-n.n c.loop-n.invariant (omega arith)
