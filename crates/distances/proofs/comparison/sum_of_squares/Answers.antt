-- The three numbers are small, so no product or sum leaves 64 bits; `ringm` proves the identity of stored numbers. Assumes nothing.
use mathlib.Core.List.{[], ◌∷◌}
use Rattle.integers.specs.Code.{fit, code_bounds, ringm, code_shapes}
use Rattle.distances.proofs.comparison.sum_of_squares.Goals as goal

pub overflow_mul-result : goal.overflow_mul-result
overflow_mul-result c = let p = c.requires in fit (search code_bounds depth 12) tt

pub overflow_mul-result-2 : goal.overflow_mul-result-2
overflow_mul-result-2 c = let p = c.requires in fit (search code_bounds depth 12) tt

pub overflow_add-result : goal.overflow_add-result
overflow_add-result c = let p = c.requires in fit (search code_bounds depth 12) tt

pub overflow_mul-result-3 : goal.overflow_mul-result-3
overflow_mul-result-3 c = let p = c.requires in fit (search code_bounds depth 12) tt

pub overflow_add-result-2 : goal.overflow_add-result-2
overflow_add-result-2 c = let p = c.requires in fit (search code_bounds depth 12) tt

pub returns : goal.returns
returns c = let a = c.args in ringm (a.e ∷ a.n ∷ a.u ∷ []) (search code_shapes depth 16) tt
