-- `pair_term` multiplies the coefficients and the weight of two ends; an equation in range keeps the products in 64 bits. Assumes nothing.
use native.Mathlib.Omega.{arith}
use Prim.Native.Nat.{◌+◌, ◌*◌, ◌%◌}
use lib.ListN.{get_or}
use Rattle.integers.specs.Code.{fit, code_bounds}
use Rattle.normals.specs.declared.Equation.{Equation}
use Rattle.normals.specs.Equations.{ends_of}
use Rattle.normals.proofs.Steps.{Pair, pair_product}
use Rattle.normals.proofs.shares.pair_term.Goals as goal

pub overflow_mul-entry : goal.overflow_mul-entry
overflow_mul-entry c =
    let lent : Equation = ends_of c.args.at.now c.args.coef.now c.args.weight.now in
    let pair : Pair lent c.args.e c.args.f = let e = c.args.e in
    let f = c.args.f in
    let h = c.requires.2 in
    record { row = h.ends e; column = h.ends f; coef = h.units e; weight = h.weights (e % 3 * 3 + f % 3); other = h.units f } in
    let h = pair in omega arith

pub overflow_add-entry : goal.overflow_add-entry
overflow_add-entry c =
    let lent : Equation = ends_of c.args.at.now c.args.coef.now c.args.weight.now in
    let pair : Pair lent c.args.e c.args.f = let e = c.args.e in
    let f = c.args.f in
    let h = c.requires.2 in
    record { row = h.ends e; column = h.ends f; coef = h.units e; weight = h.weights (e % 3 * 3 + f % 3); other = h.units f } in
    let h = pair in omega arith

pub overflow_mul-w-2 : goal.overflow_mul-w-2
overflow_mul-w-2 c =
    let lent : Equation = ends_of c.args.at.now c.args.coef.now c.args.weight.now in
    let pair : Pair lent c.args.e c.args.f = let e = c.args.e in
    let f = c.args.f in
    let h = c.requires.2 in
    record { row = h.ends e; column = h.ends f; coef = h.units e; weight = h.weights (e % 3 * 3 + f % 3); other = h.units f } in
    let h = pair in fit (search code_bounds depth 8) tt

pub overflow_mul-amount : goal.overflow_mul-amount
overflow_mul-amount c =
    let lent : Equation = ends_of c.args.at.now c.args.coef.now c.args.weight.now in
    let pair : Pair lent c.args.e c.args.f = let e = c.args.e in
    let f = c.args.f in
    let h = c.requires.2 in
    record { row = h.ends e; column = h.ends f; coef = h.units e; weight = h.weights (e % 3 * 3 + f % 3); other = h.units f } in
    let h = pair in fit (search code_bounds depth 10) tt

pub returns : goal.returns
returns c =
    let lent : Equation = ends_of c.args.at.now c.args.coef.now c.args.weight.now in
    let pair : Pair lent c.args.e c.args.f = let e = c.args.e in
    let f = c.args.f in
    let h = c.requires.2 in
    record { row = h.ends e; column = h.ends f; coef = h.units e; weight = h.weights (e % 3 * 3 + f % 3); other = h.units f } in
    λ i. record { entry = get_or c.args.at.now c.args.e 0 * 48 + get_or c.args.at.now c.args.f 0; amount = pair_product lent c.args.e c.args.f pair i }
