-- By whether the part ends inside the chunk, as `fed_at` has it. Assumes nothing.
use Rattle.std.proofs.Common.{lt-ltb, le-ltb}
use Rattle.text.specs.Lines.{fed_at}
use Rattle.text.proofs.lines.ended.Goals as goal

pub returns-then-whole : goal.returns-then-whole
unfolding fed_at
returns-then-whole c = rw (lt-ltb _ _ c.if-whole.true)

pub returns-else-whole : goal.returns-else-whole
unfolding fed_at
returns-else-whole c = rw (le-ltb _ _ c.if-whole.false)
