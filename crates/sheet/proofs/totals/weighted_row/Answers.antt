-- Residuals and weights are small, so the products fit; the sum of three is written out. Assumes nothing.
use native.Mathlib.Nat.{add-zero}
use Prim.Native.Nat.{◌+◌, ◌*◌, ◌≤◌}
use mathlib.Core.Path.{◌≡◌}
use mathlib.Core.List.{[], ◌∷◌}
use lib.ListN.{get_or}
use lib.IntN.{ℤ, pos, nat_abs, ◌+ℤ◌, ◌*ℤ◌}
use Rattle.integers.specs.Code.{fit, code_bounds, ringm, code_shapes}
use Rattle.integers.specs.Sums.{sum}
use Rattle.lists.specs.Stored.{stored}
use Rattle.sheet.proofs.totals.weighted_row.Goals as goal

row : (o x y z p q r : ℤ) → nat_abs o ≤ 300000 → nat_abs x ≤ 300000 → nat_abs y ≤ 300000 → nat_abs z ≤ 300000 → nat_abs p ≤ 10000 → nat_abs q ≤ 10000 → nat_abs r ≤ 10000
    → stored (stored o *ℤ stored (stored (stored (stored p *ℤ stored x) +ℤ stored (stored q *ℤ stored y)) +ℤ stored (stored r *ℤ stored z)))
    ≡ pos 0 +ℤ o *ℤ p *ℤ x +ℤ o *ℤ q *ℤ y +ℤ o *ℤ r *ℤ z
row o x y z p q r ho hx hy hz hp hq hr = ringm (o ∷ x ∷ y ∷ z ∷ p ∷ q ∷ r ∷ []) (search code_shapes depth 20) tt

pub overflow_mul-x : goal.overflow_mul-x
overflow_mul-x c =
    let i = c.args.a * 3 in
    let x = c.requires.1.bound 0 in let y = c.requires.1.bound 1 in let z = c.requires.1.bound 2 in let o = c.requires.1.bound c.args.a in
    let p = c.requires.2.bound i in let q = c.requires.2.bound (i + 1) in let r = c.requires.2.bound (i + 2) in
    fit (search code_bounds depth 20) tt

pub overflow_mul-y : goal.overflow_mul-y
overflow_mul-y c =
    let i = c.args.a * 3 in
    let x = c.requires.1.bound 0 in let y = c.requires.1.bound 1 in let z = c.requires.1.bound 2 in let o = c.requires.1.bound c.args.a in
    let p = c.requires.2.bound i in let q = c.requires.2.bound (i + 1) in let r = c.requires.2.bound (i + 2) in
    fit (search code_bounds depth 20) tt

pub overflow_mul-z : goal.overflow_mul-z
overflow_mul-z c =
    let i = c.args.a * 3 in
    let x = c.requires.1.bound 0 in let y = c.requires.1.bound 1 in let z = c.requires.1.bound 2 in let o = c.requires.1.bound c.args.a in
    let p = c.requires.2.bound i in let q = c.requires.2.bound (i + 1) in let r = c.requires.2.bound (i + 2) in
    fit (search code_bounds depth 20) tt

pub overflow_add-result : goal.overflow_add-result
overflow_add-result c =
    let i = c.args.a * 3 in
    let x = c.requires.1.bound 0 in let y = c.requires.1.bound 1 in let z = c.requires.1.bound 2 in let o = c.requires.1.bound c.args.a in
    let p = c.requires.2.bound i in let q = c.requires.2.bound (i + 1) in let r = c.requires.2.bound (i + 2) in
    fit (search code_bounds depth 20) tt

pub overflow_add-result-2 : goal.overflow_add-result-2
overflow_add-result-2 c =
    let i = c.args.a * 3 in
    let x = c.requires.1.bound 0 in let y = c.requires.1.bound 1 in let z = c.requires.1.bound 2 in let o = c.requires.1.bound c.args.a in
    let p = c.requires.2.bound i in let q = c.requires.2.bound (i + 1) in let r = c.requires.2.bound (i + 2) in
    fit (search code_bounds depth 20) tt

pub overflow_mul-result : goal.overflow_mul-result
overflow_mul-result c =
    let i = c.args.a * 3 in
    let x = c.requires.1.bound 0 in let y = c.requires.1.bound 1 in let z = c.requires.1.bound 2 in let o = c.requires.1.bound c.args.a in
    let p = c.requires.2.bound i in let q = c.requires.2.bound (i + 1) in let r = c.requires.2.bound (i + 2) in
    fit (search code_bounds depth 20) tt

pub returns : goal.returns
unfolding sum
returns c =
    let i = c.args.a * 3 in
    let x = c.requires.1.bound 0 in let y = c.requires.1.bound 1 in let z = c.requires.1.bound 2 in let o = c.requires.1.bound c.args.a in
    let p = c.requires.2.bound i in let q = c.requires.2.bound (i + 1) in let r = c.requires.2.bound (i + 2) in
    rw (add-zero i)
    (row (get_or c.args.v c.args.a (pos 0)) (get_or c.args.v 0 (pos 0)) (get_or c.args.v 1 (pos 0)) (get_or c.args.v 2 (pos 0))
    (get_or c.args.w i (pos 0)) (get_or c.args.w (i + 1) (pos 0)) (get_or c.args.w (i + 2) (pos 0)) o x y z p q r)
