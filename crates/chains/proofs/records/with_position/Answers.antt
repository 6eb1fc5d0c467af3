-- `with_position` goes by the test of the record. Assumes nothing.
use mathlib.Core.Path.{sym, ◌∙◌}
use Rattle.chains.proofs.records.with_position.Goals as goal

pub with-requires : goal.with-requires
with-requires c = rw c.to_of.ensures c.requires

pub returns-then-is_position : goal.returns-then-is_position
returns-then-is_position c = rw (sym c.is_position.ensures ∙ c.if-is_position.true, ← c.to_of.ensures) c.with.ensures

pub returns : goal.returns
returns c = rw (sym c.is_position.ensures ∙ c.if-is_position.false)
