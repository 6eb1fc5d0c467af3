-- The definition, with what `is_empty` ensures in it. Assumes nothing.
use Rattle.std.proofs.Common.{eq-eqb, ne_eqb}
use Rattle.book.specs.Journal.{is_free}
use Rattle.book.proofs.soundness.is_free.Goals as goal

pub returns-then-u-eq0 : goal.returns-then-u-eq0
unfolding is_free
returns-then-u-eq0 c = rw (eq-eqb _ _ c.if-u-eq0.true) c.is_empty.ensures

pub returns-else-u-eq0 : goal.returns-else-u-eq0
unfolding is_free
returns-else-u-eq0 c = rw (ne_eqb _ _ c.if-u-eq0.false)
