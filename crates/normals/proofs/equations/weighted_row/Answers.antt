-- `weighted_row` gives a row of P times the misclosures. Assumes nothing.
use native.Mathlib.Omega.{arith}
use Prim.Native.Nat.{◌+◌, ◌*◌}
use mathlib.Core.Path.{◌≡◌}
use lib.ListN.{get_or}
use lib.IntN.{pos}
use Rattle.integers.specs.Code.{fit, code_bounds}
use Rattle.integers.specs.Sums.{sum}
use Rattle.normals.specs.Equations.{weighted}
use Rattle.normals.proofs.Steps.{Row, row_sum}
use Rattle.normals.proofs.equations.weighted_row.Goals as goal

pub overflow_mul-x : goal.overflow_mul-x
overflow_mul-x c =
    let row : Row (get_or c.args.equation.now.weight (c.args.a * 3) (pos 0)) (get_or c.args.equation.now.weight (c.args.a * 3 + 1) (pos 0)) (get_or c.args.equation.now.weight (c.args.a * 3 + 2) (pos 0))
    (get_or c.args.equation.now.misclosure 0 (pos 0)) (get_or c.args.equation.now.misclosure 1 (pos 0)) (get_or c.args.equation.now.misclosure 2 (pos 0)) = let a = c.args.a * 3 in
    let f = c.requires.1 in
    record { left = f.weights a; middle = f.weights (a + 1); right = f.weights (a + 2); east = f.misclosures 0; north = f.misclosures 1; up = f.misclosures 2 } in
    let h = row in fit (search code_bounds depth 8) tt

pub overflow_mul-y : goal.overflow_mul-y
overflow_mul-y c =
    let row : Row (get_or c.args.equation.now.weight (c.args.a * 3) (pos 0)) (get_or c.args.equation.now.weight (c.args.a * 3 + 1) (pos 0)) (get_or c.args.equation.now.weight (c.args.a * 3 + 2) (pos 0))
    (get_or c.args.equation.now.misclosure 0 (pos 0)) (get_or c.args.equation.now.misclosure 1 (pos 0)) (get_or c.args.equation.now.misclosure 2 (pos 0)) = let a = c.args.a * 3 in
    let f = c.requires.1 in
    record { left = f.weights a; middle = f.weights (a + 1); right = f.weights (a + 2); east = f.misclosures 0; north = f.misclosures 1; up = f.misclosures 2 } in
    let h = row in fit (search code_bounds depth 8) tt

pub overflow_mul-z : goal.overflow_mul-z
overflow_mul-z c =
    let row : Row (get_or c.args.equation.now.weight (c.args.a * 3) (pos 0)) (get_or c.args.equation.now.weight (c.args.a * 3 + 1) (pos 0)) (get_or c.args.equation.now.weight (c.args.a * 3 + 2) (pos 0))
    (get_or c.args.equation.now.misclosure 0 (pos 0)) (get_or c.args.equation.now.misclosure 1 (pos 0)) (get_or c.args.equation.now.misclosure 2 (pos 0)) = let a = c.args.a * 3 in
    let f = c.requires.1 in
    record { left = f.weights a; middle = f.weights (a + 1); right = f.weights (a + 2); east = f.misclosures 0; north = f.misclosures 1; up = f.misclosures 2 } in
    let h = row in fit (search code_bounds depth 8) tt

pub overflow_add-result : goal.overflow_add-result
overflow_add-result c =
    let row : Row (get_or c.args.equation.now.weight (c.args.a * 3) (pos 0)) (get_or c.args.equation.now.weight (c.args.a * 3 + 1) (pos 0)) (get_or c.args.equation.now.weight (c.args.a * 3 + 2) (pos 0))
    (get_or c.args.equation.now.misclosure 0 (pos 0)) (get_or c.args.equation.now.misclosure 1 (pos 0)) (get_or c.args.equation.now.misclosure 2 (pos 0)) = let a = c.args.a * 3 in
    let f = c.requires.1 in
    record { left = f.weights a; middle = f.weights (a + 1); right = f.weights (a + 2); east = f.misclosures 0; north = f.misclosures 1; up = f.misclosures 2 } in
    let h = row in fit (search code_bounds depth 10) tt

pub overflow_add-result-2 : goal.overflow_add-result-2
overflow_add-result-2 c =
    let row : Row (get_or c.args.equation.now.weight (c.args.a * 3) (pos 0)) (get_or c.args.equation.now.weight (c.args.a * 3 + 1) (pos 0)) (get_or c.args.equation.now.weight (c.args.a * 3 + 2) (pos 0))
    (get_or c.args.equation.now.misclosure 0 (pos 0)) (get_or c.args.equation.now.misclosure 1 (pos 0)) (get_or c.args.equation.now.misclosure 2 (pos 0)) = let a = c.args.a * 3 in
    let f = c.requires.1 in
    record { left = f.weights a; middle = f.weights (a + 1); right = f.weights (a + 2); east = f.misclosures 0; north = f.misclosures 1; up = f.misclosures 2 } in
    let h = row in fit (search code_bounds depth 12) tt

pub returns : goal.returns
unfolding weighted sum
returns c =
    let row : Row (get_or c.args.equation.now.weight (c.args.a * 3) (pos 0)) (get_or c.args.equation.now.weight (c.args.a * 3 + 1) (pos 0)) (get_or c.args.equation.now.weight (c.args.a * 3 + 2) (pos 0))
    (get_or c.args.equation.now.misclosure 0 (pos 0)) (get_or c.args.equation.now.misclosure 1 (pos 0)) (get_or c.args.equation.now.misclosure 2 (pos 0)) = let a = c.args.a * 3 in
    let f = c.requires.1 in
    record { left = f.weights a; middle = f.weights (a + 1); right = f.weights (a + 2); east = f.misclosures 0; north = f.misclosures 1; up = f.misclosures 2 } in
    let a = c.args.a * 3 in
    let z : a + 0 ≡ a = omega arith in
    let w = c.args.equation.now.weight in
    let m = c.args.equation.now.misclosure in
    rw z (row_sum (get_or w a (pos 0)) (get_or w (a + 1) (pos 0)) (get_or w (a + 2) (pos 0)) (get_or m 0 (pos 0)) (get_or m 1 (pos 0)) (get_or m 2 (pos 0)) row)
