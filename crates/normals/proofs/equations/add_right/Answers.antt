-- `add_right` adds a record's share to u. The loop's invariant: the ends passed are added. Assumes nothing.
use native.Mathlib.Omega.{arith}
use Prim.Native.Nat.{ℕ, ◌+◌, ◌%◌, ◌≤◌, ◌^◌}
use mathlib.Core.List.{List}
use mathlib.Core.Path.{◌≡◌, ap, ◌∙◌}
use lib.ListN.{get_or}
use lib.IntN.{ℤ, pos, nat_abs, ◌+ℤ◌, ◌*ℤ◌}
use mir.Syntax.{w64}
use mir.Val.{to_z, of_z}
use Rattle.normals.specs.declared.Equation.{Equation}
use Rattle.integers.specs.Code.{fit, code_bounds}
use Rattle.integers.specs.Sums.{sum-+1, sum_zero}
use Rattle.integers.specs.Tables.{plus, plus_none, plus_step, Within, within-plus}
use Rattle.lists.specs.Stored.{stored, back, kept}
use Rattle.normals.specs.Equations.{EquationInRange, at_of, coef_of, weighted, block_u}
use Rattle.normals.specs.EquationSizes.{weighted-size, right_size}
use Rattle.normals.proofs.Steps.{RightTurn, right_step}
use Rattle.normals.proofs.equations.add_right.Invariants.{sofar}
use Rattle.normals.proofs.equations.add_right.Goals as goal

pub loop-e-init : goal.loop-e-init
loop-e-init c = plus_none 48 _ _ _ c.requires.2.long (λ k. sum_zero _)

-- a turn, from what the function requires and the loop keeps
turn_by : {q : Equation} {e : ℕ} {s : ℤ} {u v : List ℤ} → nat_abs s ≤ 1 → EquationInRange q → Within 48 (2 ^ 43) u → e ≤ 6
    → v ≡ plus 48 u (stored s) (sofar q e) → RightTurn q e s v
turn_by {q} {e} {s} {u} {v} one range small ends is =
    let wide : Within 48 (2 ^ 43 + 18000000000) v = rw is (within-plus 48 _ _ _ (2 ^ 43) 18000000000 (kept s one tt) small (λ k. right_size q range _ k ends)) in
    record { sign = one; at = range.ends e; coef = range.units e; entry = wide.bound (at_of q e) }

pub overflow_mul-c : goal.overflow_mul-c
overflow_mul-c c =
    let h : RightTurn c.args.equation c.loop-e.e c.args.sign c.loop-e.u = turn_by c.requires.0 c.requires.1 c.requires.2 c.loop-e.auto.e-end c.loop-e.invariant in
    fit (search code_bounds depth 8) tt

pub weighted_row-p-requires : goal.weighted_row-p-requires
weighted_row-p-requires c = (omega arith, c.requires.1)

pub overflow_mul-v : goal.overflow_mul-v
overflow_mul-v c =
    let h : RightTurn c.args.equation c.loop-e.e c.args.sign c.loop-e.u = turn_by c.requires.0 c.requires.1 c.requires.2 c.loop-e.auto.e-end c.loop-e.invariant in
    let row_of : nat_abs c.weighted_row-p.result ≤ 3000000000 = rw c.weighted_row-p.ensures (weighted-size _ c.requires.1 _) in
    let w = row_of in
    fit (search code_bounds depth 10) tt

pub offset_bounds-u-k : goal.offset_bounds-u-k
offset_bounds-u-k c =
    let h : RightTurn c.args.equation c.loop-e.e c.args.sign c.loop-e.u = turn_by c.requires.0 c.requires.1 c.requires.2 c.loop-e.auto.e-end c.loop-e.invariant in
    omega arith

pub bounds-u-k : goal.bounds-u-k
bounds-u-k c =
    let h : RightTurn c.args.equation c.loop-e.e c.args.sign c.loop-e.u = turn_by c.requires.0 c.requires.1 c.requires.2 c.loop-e.auto.e-end c.loop-e.invariant in
    omega arith

pub overflow_add-u : goal.overflow_add-u
overflow_add-u c =
    let h : RightTurn c.args.equation c.loop-e.e c.args.sign c.loop-e.u = turn_by c.requires.0 c.requires.1 c.requires.2 c.loop-e.auto.e-end c.loop-e.invariant in
    let row_of : nat_abs c.weighted_row-p.result ≤ 3000000000 = rw c.weighted_row-p.ensures (weighted-size _ c.requires.1 _) in
    let w = row_of in
    fit (search code_bounds depth 12) tt

pub offset_bounds-u-k-in-loop-e : goal.offset_bounds-u-k-in-loop-e
offset_bounds-u-k-in-loop-e c =
    let h : RightTurn c.args.equation c.loop-e.e c.args.sign c.loop-e.u = turn_by c.requires.0 c.requires.1 c.requires.2 c.loop-e.auto.e-end c.loop-e.invariant in
    omega arith

pub bounds-u-k-in-loop-e : goal.bounds-u-k-in-loop-e
bounds-u-k-in-loop-e c =
    let h : RightTurn c.args.equation c.loop-e.e c.args.sign c.loop-e.u = turn_by c.requires.0 c.requires.1 c.requires.2 c.loop-e.auto.e-end c.loop-e.invariant in
    omega arith

pub loop-e-preserved : goal.loop-e-preserved
loop-e-preserved c =
    let h : RightTurn c.args.equation c.loop-e.e c.args.sign c.loop-e.u = turn_by c.requires.0 c.requires.1 c.requires.2 c.loop-e.auto.e-end c.loop-e.invariant in
    let row_of : nat_abs c.weighted_row-p.result ≤ 3000000000 = rw c.weighted_row-p.ensures (weighted-size _ c.requires.1 _) in
    let l = c.loop-e in
    let q = c.args.equation in
    plus_step 48 _ _ (sofar q l.e) (sofar q (l.e + 1)) _ (at_of q l.e) (coef_of q l.e *ℤ weighted q (l.e % 3)) _ l.invariant h.at
    (λ k. sum-+1 l.e _)
    (right_step (get_or l.u (at_of q l.e) (pos 0)) c.args.sign (coef_of q l.e) c.weighted_row-p.result h.entry h.sign h.coef row_of
    ∙ ap (λ (z : ℤ). get_or l.u (at_of q l.e) (pos 0) +ℤ to_z w64 (of_z w64 c.args.sign) *ℤ (coef_of q l.e *ℤ z)) c.weighted_row-p.ensures)

pub returns : goal.returns
unfolding block_u
returns c =
    let l = c.loop-e in
    let six : l.e ≡ 6 = omega arith in
    l.invariant
    ∙ ap (λ (m : ℕ). plus 48 c.args.u.now (to_z w64 (of_z w64 c.args.sign)) (sofar c.args.equation m)) six
    ∙ ap (λ (z : ℤ). plus 48 c.args.u.now z (sofar c.args.equation 6)) (back c.args.sign c.requires.0 tt)
