-- Both numbers are small, so their sum fits. Assumes nothing.
use mathlib.Core.List.{[], ◌∷◌}
use lib.ListN.{get_or}
use lib.IntN.{pos}
use Rattle.integers.specs.Code.{fit, code_bounds, ringm, code_shapes}
use Rattle.residuals.proofs.components.adjusted.Goals as goal

pub overflow_add-result : goal.overflow_add-result
overflow_add-result c = let x = c.requires.1.bound c.args.q in let y = c.requires.2.bound c.args.q in fit (search code_bounds depth 20) tt

pub returns : goal.returns
returns c = let x = c.requires.1.bound c.args.q in let y = c.requires.2.bound c.args.q in ringm (get_or c.args.coordinate.now c.args.q (pos 0) ∷ get_or c.args.correction.now c.args.q (pos 0) ∷ []) (search code_shapes depth 20) tt
