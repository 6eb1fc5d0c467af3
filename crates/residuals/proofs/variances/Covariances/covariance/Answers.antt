-- The index is inside M (`index_inside`), and the product of two bits and an entry is small. Assumes nothing.
use native.Mathlib.Omega.{arith}
use Prim.Native.Nat.{◌+◌, ◌*◌}
use mathlib.Core.List.{[], ◌∷◌}
use lib.ListN.{get_or}
use lib.IntN.{pos}
use Rattle.integers.specs.Code.{fit, code_bounds, ringm, code_shapes}
use Rattle.residuals.specs.Components.{covariance_in, index_inside, index_small}
use Rattle.residuals.proofs.variances.Covariances.covariance.Goals as goal

pub overflow_mul-i : goal.overflow_mul-i
overflow_mul-i c = let h = c.requires.0 in let g = c.requires.1 in let w = c.args.self.looked_up in let i = index_small w c.args.q c.args.k h g in omega (arith, i)

pub overflow_add-i : goal.overflow_add-i
overflow_add-i c = let h = c.requires.0 in let g = c.requires.1 in let w = c.args.self.looked_up in let i = index_small w c.args.q c.args.k h g in omega (arith, i)

pub overflow_mul-result : goal.overflow_mul-result
overflow_mul-result c = let h = c.requires.0 in let g = c.requires.1 in let w = c.args.self.looked_up in let x = w.bits.bound c.args.q in let y = w.bits.bound c.args.k in let z = w.small (get_or c.args.self.number.now c.args.q 0 * c.args.self.n + get_or c.args.self.number.now c.args.k 0) in fit (search code_bounds depth 20) tt

pub offset_bounds-self-i : goal.offset_bounds-self-i
offset_bounds-self-i c = let h = c.requires.0 in let g = c.requires.1 in let w = c.args.self.looked_up in let i = index_small w c.args.q c.args.k h g in omega (arith, i)

pub bounds-self-i : goal.bounds-self-i
bounds-self-i c = let h = c.requires.0 in let g = c.requires.1 in let w = c.args.self.looked_up in index_inside w c.args.q c.args.k h g

pub overflow_mul-result-2 : goal.overflow_mul-result-2
overflow_mul-result-2 c = let h = c.requires.0 in let g = c.requires.1 in let w = c.args.self.looked_up in let x = w.bits.bound c.args.q in let y = w.bits.bound c.args.k in let z = w.small (get_or c.args.self.number.now c.args.q 0 * c.args.self.n + get_or c.args.self.number.now c.args.k 0) in fit (search code_bounds depth 20) tt

pub returns : goal.returns
unfolding covariance_in
returns c =
    let h = c.requires.0 in let g = c.requires.1 in let w = c.args.self.looked_up in let x = w.bits.bound c.args.q in let y = w.bits.bound c.args.k in let z = w.small (get_or c.args.self.number.now c.args.q 0 * c.args.self.n + get_or c.args.self.number.now c.args.k 0) in
    ringm
    (get_or c.args.self.unknown.now c.args.q (pos 0) ∷ get_or c.args.self.unknown.now c.args.k (pos 0)
    ∷ get_or c.args.self.m.now (get_or c.args.self.number.now c.args.q 0 * c.args.self.n + get_or c.args.self.number.now c.args.k 0) (pos 0) ∷ [])
    (search code_shapes depth 20) tt
