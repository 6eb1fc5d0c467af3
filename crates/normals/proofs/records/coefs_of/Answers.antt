-- `coefs_of` gives the coefficients at the six ends. Assumes nothing.
use Prim.Native.Nat.{◌+◌, ◌*◌}
use mathlib.Core.Path.{refl, ap₂}
use mathlib.Core.List.{◌∷◌}
use lib.ListN.{get_or}
use lib.IntN.{pos}
use Rattle.integers.specs.Code.{fit, code_bounds}
use Rattle.lists.specs.Stored.{back}
use Rattle.normals.proofs.Steps.{from_coef}
use Rattle.normals.proofs.records.coefs_of.Goals as goal

pub overflow_mul-result : goal.overflow_mul-result
overflow_mul-result c = let x = c.requires.2.bound (c.args.f * 3) in let y = c.requires.3 in fit (search code_bounds depth 8) tt

pub overflow_sub-result : goal.overflow_sub-result
overflow_sub-result c = let x = c.requires.2.bound (c.args.f * 3) in let y = c.requires.3 in fit (search code_bounds depth 8) tt

pub overflow_mul-result-2 : goal.overflow_mul-result-2
overflow_mul-result-2 c = let x = c.requires.2.bound (c.args.f * 3 + 1) in let y = c.requires.3 in fit (search code_bounds depth 8) tt

pub overflow_sub-result-2 : goal.overflow_sub-result-2
overflow_sub-result-2 c = let x = c.requires.2.bound (c.args.f * 3 + 1) in let y = c.requires.3 in fit (search code_bounds depth 8) tt

pub overflow_mul-result-3 : goal.overflow_mul-result-3
overflow_mul-result-3 c = let x = c.requires.2.bound (c.args.f * 3 + 2) in let y = c.requires.3 in fit (search code_bounds depth 8) tt

pub overflow_sub-result-3 : goal.overflow_sub-result-3
overflow_sub-result-3 c = let x = c.requires.2.bound (c.args.f * 3 + 2) in let y = c.requires.3 in fit (search code_bounds depth 8) tt

pub returns : goal.returns
returns c =
    let u = c.args.unknown.now in let w = c.requires.2.bound in let i = c.args.f * 3 in let j = c.args.t * 3 in let g = c.args.g in let k = c.requires.3 in
    ap₂ ◌∷◌ (from_coef g (get_or u i (pos 0)) k (w i)) (ap₂ ◌∷◌ (from_coef g (get_or u (i + 1) (pos 0)) k (w (i + 1))) (ap₂ ◌∷◌ (from_coef g (get_or u (i + 2) (pos 0)) k (w (i + 2)))
    (ap₂ ◌∷◌ (back (get_or u j (pos 0)) (w j) tt) (ap₂ ◌∷◌ (back (get_or u (j + 1) (pos 0)) (w (j + 1)) tt) (ap₂ ◌∷◌ (back (get_or u (j + 2) (pos 0)) (w (j + 2)) tt) refl)))))
