-- The dividend is not negative, so the machine's quotient is the floor (`quotient`). Assumes nothing.
use mathlib.Core.Path.{◌≡◌, sym, ap, ◌∙◌, subst}
use mathlib.Core.List.{[], ◌∷◌}
use lib.IntN.{ℤ, pos, nat_abs, ◌*ℤ◌}
use lib.Signed.{quot_z}
use mir.Syntax.{w64}
use mir.Val.{SFits}
use Rattle.integers.specs.Code.{fit, code_bounds, ringm, code_shapes}
use Rattle.integers.specs.Division.{floor_div}
use Rattle.lists.specs.Stored.{stored, back, fits_by}
use Rattle.weights.specs.Quotients.{Quotient, divisor-bits}
use Rattle.integers.specs.Inverses.{S}
use Rattle.residuals.specs.Weights.{observation_size, quotient}
use Rattle.residuals.proofs.variances.observation_variance.Goals as goal

-- the machine's quotient of stored numbers
machine : (adj det : ℤ) → Quotient adj det → quot_z (stored (pos 1073741824 *ℤ stored adj)) (stored det) ≡ floor_div (S *ℤ adj) (nat_abs det)
machine adj det q =
    let x = q.small in
    let e : stored (pos 1073741824 *ℤ stored adj) ≡ S *ℤ adj = ringm (adj ∷ []) (search code_shapes depth 20) tt in
    rw (e, back det q.size tt) (sym (quotient q))

pub overflow_mul-result : goal.overflow_mul-result
overflow_mul-result c = let x = c.requires.small in fit (search code_bounds depth 20) tt

pub nonzero_div-result : goal.nonzero_div-result
nonzero_div-result c = (divisor-bits c.requires, subst (SFits w64) (sym (machine c.args.adj c.args.det c.requires)) (fits_by (floor_div (S *ℤ c.args.adj) (nat_abs c.args.det)) (observation_size c.requires) tt))

pub returns : goal.returns
returns c = ap stored (machine c.args.adj c.args.det c.requires) ∙ back (floor_div (S *ℤ c.args.adj) (nat_abs c.args.det)) (observation_size c.requires) tt
