-- `empties_in` fills the table from the front: `Mapped` is the invariant. Assumes nothing.
use mathlib.Core.Path.{ap, ◌∙◌}
use mathlib.Core.Bool.{false}
use native.Mathlib.Omega.{arith}
use borrow.Author.Rules.{rules}
use Rattle.lists.specs.Filling.{starts, goes_on, finish}
use Rattle.network.specs.Records.{is_empty}
use Rattle.network.specs.declared.Record.{Record}
use Rattle.book.proofs.soundness.empties_in.Goals as goal

pub loop-p-init : goal.loop-p-init
loop-p-init c = starts false 256 _ _ (search rules)

pub loop-p-preserved : goal.loop-p-preserved
loop-p-preserved c = goes_on false 256 _ _ c.loop-p.empty c.loop-p.p _ (omega arith) c.loop-p.invariant (c.is_empty.ensures ∙ ap (λ (r : Record). is_empty r) c.record_at-r.ensures)

pub returns : goal.returns
returns c = finish false 256 _ _ c.loop-p.empty c.loop-p.p (omega arith) c.loop-p.invariant
