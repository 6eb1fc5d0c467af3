-- The numbers are small, so no step leaves 64 bits and the machine's difference is the one asked for. Assumes nothing.
use Prim.Native.Nat.{◌+◌, ◌*◌}
use mathlib.Core.List.{[], ◌∷◌}
use lib.ListN.{get_or}
use lib.IntN.{pos}
use Rattle.integers.specs.Code.{fit, code_bounds, ringm, code_shapes}
use Rattle.residuals.proofs.components.residual.Goals as goal

pub overflow_mul-result : goal.overflow_mul-result
overflow_mul-result c = let l = c.requires.3 in let j = c.requires.4 in let x = c.requires.5.bound (c.args.t * 3 + c.args.a) in let y = c.requires.5.bound (c.args.f * 3 + c.args.a) in fit (search code_bounds depth 20) tt

pub overflow_sub-result : goal.overflow_sub-result
overflow_sub-result c = let l = c.requires.3 in let j = c.requires.4 in let x = c.requires.5.bound (c.args.t * 3 + c.args.a) in let y = c.requires.5.bound (c.args.f * 3 + c.args.a) in fit (search code_bounds depth 20) tt

pub overflow_sub-result-2 : goal.overflow_sub-result-2
overflow_sub-result-2 c = let l = c.requires.3 in let j = c.requires.4 in let x = c.requires.5.bound (c.args.t * 3 + c.args.a) in let y = c.requires.5.bound (c.args.f * 3 + c.args.a) in fit (search code_bounds depth 20) tt

pub returns : goal.returns
returns c =
    let l = c.requires.3 in let j = c.requires.4 in let x = c.requires.5.bound (c.args.t * 3 + c.args.a) in let y = c.requires.5.bound (c.args.f * 3 + c.args.a) in
    ringm
    (c.args.l ∷ c.args.j ∷ get_or c.args.correction.now (c.args.t * 3 + c.args.a) (pos 0) ∷ get_or c.args.correction.now (c.args.f * 3 + c.args.a) (pos 0) ∷ [])
    (search code_shapes depth 20) tt
