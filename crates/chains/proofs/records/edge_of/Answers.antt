-- `edge_of` puts the ends together where the record acts. Assumes nothing.
use mathlib.Core.Path.{sym, ◌∙◌}
use Rattle.chains.specs.ChainLaws.{edge_yes, edge_no}
use Rattle.chains.proofs.records.edge_of.Goals as goal

pub returns-then-acts_in : goal.returns-then-acts_in
returns-then-acts_in c =
    rw (c.from_of.ensures, c.to_of.ensures)
    (sym (edge_yes _ _ (sym c.acts_in.ensures ∙ c.if-acts_in.true)))

pub returns : goal.returns
returns c = sym (edge_no _ _ (sym c.acts_in.ensures ∙ c.if-acts_in.false))
