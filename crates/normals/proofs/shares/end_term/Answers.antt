-- `end_term` multiplies an end's coefficient and its row of P times the misclosures; an equation in range keeps the product in 64 bits. Assumes nothing.
use native.Mathlib.Omega.{arith}
use Prim.Native.Nat.{◌+◌, ◌≤◌}
use mathlib.Core.Path.{ap, ◌∙◌}
use lib.ListN.{get_or}
use lib.IntN.{ℤ, nat_abs, ◌*ℤ◌}
use Rattle.integers.specs.Code.{fit, code_bounds}
use Rattle.normals.specs.Equations.{coef_of}
use Rattle.normals.specs.EquationSizes.{weighted-size}
use Rattle.normals.proofs.Steps.{end_product}
use Rattle.normals.proofs.shares.end_term.Goals as goal

pub overflow_add-entry : goal.overflow_add-entry
overflow_add-entry c = let h = c.requires.1.ends c.args.e in omega arith

pub overflow_mul-amount : goal.overflow_mul-amount
overflow_mul-amount c =
    let row_of : nat_abs c.weighted_row-p.result ≤ 3000000000 = rw c.weighted_row-p.ensures (weighted-size _ c.requires.1 _) in
    let r = row_of in let h = c.requires.1.units c.args.e in fit (search code_bounds depth 8) tt

pub returns : goal.returns
returns c =
    let row_of : nat_abs c.weighted_row-p.result ≤ 3000000000 = rw c.weighted_row-p.ensures (weighted-size _ c.requires.1 _) in
    let e = c.args.e in
    let q = c.args.q in
    let amount = end_product (coef_of q e) c.weighted_row-p.result (c.requires.1.units e) row_of ∙ ap (λ (z : ℤ). coef_of q e *ℤ z) c.weighted_row-p.ensures in
    λ i. record { entry = 2304 + get_or q.at e 0; amount = amount i }
