-- By whether the record is in the adjustment. Assumes nothing.
use mathlib.Core.Path.{sym, ap, ◌∙◌}
use mathlib.Core.Bool.{Bool, cond}
use Rattle.network.specs.Records.{observations}
use Rattle.sheet.proofs.totals.share_of_d.Goals as goal

pub returns-then-in_adjustment : goal.returns-then-in_adjustment
returns-then-in_adjustment c = c.observations_of.ensures ∙ ap (λ (b : Bool). cond b (observations c.args.r) 0) (sym c.if-in_adjustment.true ∙ c.in_adjustment.ensures)

pub returns : goal.returns
returns c = ap (λ (b : Bool). cond b (observations c.args.r) 0) (sym c.if-in_adjustment.false ∙ c.in_adjustment.ensures)
