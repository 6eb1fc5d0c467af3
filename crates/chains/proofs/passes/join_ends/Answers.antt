-- `join_ends` is `join`, by what `has` told of the two ends. Assumes nothing.
use mathlib.Core.Path.{sym, ◌∙◌}
use Rattle.chains.specs.Search.{join_is}
use Rattle.chains.proofs.passes.join_ends.Goals as goal

pub returns-then-has : goal.returns-then-has
returns-then-has c = rw (join_is, sym c.has.ensures ∙ c.if-has.true) c.with.ensures

pub returns-then-has-2 : goal.returns-then-has-2
returns-then-has-2 c =
    rw (join_is, sym c.has.ensures ∙ c.if-has.false, sym c.has-2.ensures ∙ c.if-has-2.true)
    c.with-then-has-2.ensures

pub returns : goal.returns
returns c = rw (join_is, sym c.has.ensures ∙ c.if-has.false, sym c.has-2.ensures ∙ c.if-has-2.false)
