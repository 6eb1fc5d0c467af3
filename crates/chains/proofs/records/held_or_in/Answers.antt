-- `held_or_in` goes by the test of the kind. Assumes nothing.
use mathlib.Core.Path.{sym, ◌∙◌}
use borrow.Author.Tests.{eq-eqb, ne_eqb}
use Rattle.chains.proofs.records.held_or_in.Goals as goal

pub returns-then-unknown_in-eq0 : goal.returns-then-unknown_in-eq0
returns-then-unknown_in-eq0 c = rw (eq-eqb _ 0 (sym c.unknown_in.ensures ∙ c.if-unknown_in-eq0.true))

pub returns : goal.returns
returns c = rw (ne_eqb _ 0 (λ e. c.if-unknown_in-eq0.false (c.unknown_in.ensures ∙ e))) c.has.ensures
