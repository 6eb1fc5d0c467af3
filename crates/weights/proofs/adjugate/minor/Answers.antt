-- The four numbers are small, so no product or difference leaves 64 bits; `ringm` proves the identity of stored numbers. Assumes nothing.
use mathlib.Core.List.{[], ◌∷◌}
use Rattle.integers.specs.Code.{fit, code_bounds, ringm, code_shapes}
use Rattle.weights.proofs.adjugate.minor.Goals as goal

pub overflow_mul-result : goal.overflow_mul-result
overflow_mul-result c = let p = c.requires in fit (search code_bounds depth 8) tt

pub overflow_mul-result-2 : goal.overflow_mul-result-2
overflow_mul-result-2 c = let p = c.requires in fit (search code_bounds depth 8) tt

pub overflow_sub-result : goal.overflow_sub-result
overflow_sub-result c = let p = c.requires in fit (search code_bounds depth 8) tt

pub returns : goal.returns
returns c = let a = c.args in ringm (a.a ∷ a.b ∷ a.c ∷ a.d ∷ []) (search code_shapes depth 12) tt
