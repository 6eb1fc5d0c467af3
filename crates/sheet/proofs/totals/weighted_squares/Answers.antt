-- Three rows, each small, so their sum fits. Assumes nothing.
use native.Mathlib.Omega.{arith}
use Prim.Native.Nat.{ℕ, ◌+◌, ◌*◌, ◌≤◌}
use mathlib.Core.Path.{◌≡◌, ◌∙◌}
use mathlib.Core.List.{List, [], ◌∷◌}
use lib.ListN.{get_or}
use lib.IntN.{ℤ, pos, nat_abs, ◌+ℤ◌, ◌*ℤ◌}
use Rattle.integers.specs.Bounds.{bounds, absle}
use Rattle.integers.specs.Code.{fit, code_bounds, ringm, code_shapes}
use Rattle.integers.specs.Sums.{sum, abs-sum-const}
use Rattle.integers.specs.Tables.{Within}
use Rattle.lists.specs.Stored.{stored}
use Rattle.sheet.proofs.totals.weighted_squares.Goals as goal

size : (v w : List ℤ) (a : ℕ) → Within 3 300000 v → Within 9 10000 w → {s : ℤ} → s ≡ sum 3 (λ b. get_or v a (pos 0) *ℤ get_or w (a * 3 + b) (pos 0) *ℤ get_or v b (pos 0))
    → nat_abs s ≤ 2700000000000000
size v w a g h e =
    rw e (abs-sum-const 3 (λ b. get_or v a (pos 0) *ℤ get_or w (a * 3 + b) (pos 0) *ℤ get_or v b (pos 0)) 900000000000000 (λ b l.
    let x = g.bound a in let y = g.bound b in let z = h.bound (a * 3 + b) in
    absle (get_or v a (pos 0) *ℤ get_or w (a * 3 + b) (pos 0) *ℤ get_or v b (pos 0)) (search bounds) (omega arith)))

total : (x y z : ℤ) → nat_abs x ≤ 2700000000000000 → nat_abs y ≤ 2700000000000000 → nat_abs z ≤ 2700000000000000
    → stored (stored (stored x +ℤ stored y) +ℤ stored z) ≡ pos 0 +ℤ x +ℤ y +ℤ z
total x y z p q r = ringm (x ∷ y ∷ z ∷ []) (search code_shapes depth 20) tt

pub overflow_add-result : goal.overflow_add-result
overflow_add-result c =
    let x = size c.args.v c.args.w 0 c.requires.0 c.requires.1 c.weighted_row-x.ensures in
    let y = size c.args.v c.args.w 1 c.requires.0 c.requires.1 c.weighted_row-y.ensures in
    let z = size c.args.v c.args.w 2 c.requires.0 c.requires.1 c.weighted_row-z.ensures in
    fit (search code_bounds depth 20) tt

pub overflow_add-result-2 : goal.overflow_add-result-2
overflow_add-result-2 c =
    let x = size c.args.v c.args.w 0 c.requires.0 c.requires.1 c.weighted_row-x.ensures in
    let y = size c.args.v c.args.w 1 c.requires.0 c.requires.1 c.weighted_row-y.ensures in
    let z = size c.args.v c.args.w 2 c.requires.0 c.requires.1 c.weighted_row-z.ensures in
    fit (search code_bounds depth 20) tt

pub returns : goal.returns
unfolding sum
returns c =
    let x = size c.args.v c.args.w 0 c.requires.0 c.requires.1 c.weighted_row-x.ensures in
    let y = size c.args.v c.args.w 1 c.requires.0 c.requires.1 c.weighted_row-y.ensures in
    let z = size c.args.v c.args.w 2 c.requires.0 c.requires.1 c.weighted_row-z.ensures in
    total c.weighted_row-x.result c.weighted_row-y.result c.weighted_row-z.result x y z ∙ rw (c.weighted_row-x.ensures, c.weighted_row-y.ensures, c.weighted_row-z.ensures)
