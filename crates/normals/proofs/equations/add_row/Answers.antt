-- `add_row` adds the part of one end to N. The loop's invariant: the pairs passed are added. Assumes nothing.
use native.Mathlib.Omega.{arith}
use Prim.Native.Nat.{ℕ, ◌+◌, ◌*◌, ◌%◌, ◌^◌, ◌≤◌}
use mathlib.Core.List.{List}
use mathlib.Core.Path.{◌≡◌, sym, ap, ◌∙◌}
use lib.IntN.{ℤ, pos, nat_abs}
use mir.Syntax.{w64}
use mir.Val.{to_z, of_z}
use Rattle.integers.specs.Code.{fit, code_bounds}
use Rattle.integers.specs.Sums.{sum-+1, sum_zero}
use Rattle.normals.specs.declared.Equation.{Equation}
use Rattle.integers.specs.Tables.{plus, plus_none, plus_step, Within, within-plus}
use Rattle.lists.specs.Stored.{stored, back, kept}
use Rattle.normals.specs.Equations.{EquationInRange, at_of, coef_of, pair_n, row_n}
use Rattle.normals.specs.EquationSizes.{row_size}
use Rattle.normals.proofs.Steps.{Turn, entry_step, entry_fits, row_held}
use Rattle.normals.proofs.equations.add_row.Invariants.{sofar}
use Rattle.normals.proofs.equations.add_row.Goals as goal

pub returns-then-own-eq0 : goal.returns-then-own-eq0
returns-then-own-eq0 c =
    let lent : Equation = c.args.equation.now in
    let held : coef_of lent c.args.e ≡ pos 0 = sym (back (coef_of lent c.args.e) (c.requires.2.units c.args.e) tt) ∙ ap (to_z w64) c.if-own-eq0.true in
    plus_none 2304 _ _ _ c.requires.3.long (row_held lent c.args.e held)

-- a turn, from what the function requires and the loop keeps
turn_by : {q : Equation} {e f : ℕ} {s : ℤ} {n m : List ℤ} → nat_abs s ≤ 1 → EquationInRange q → Within 2304 (2 ^ 41) n → f ≤ 6
    → m ≡ plus 2304 n (stored s) (sofar q e f) → Turn q e f s m
turn_by {q} {e} {f} {s} {n} {m} one range small ends is =
    let wide : Within 2304 (2 ^ 41 + 60000) m = rw is (within-plus 2304 _ _ _ (2 ^ 41) 60000 (kept s one tt) small (λ k. row_size q range _ _ k ends)) in
    record {
      sign = one;
      row = range.ends e;
      column = range.ends f;
      coef = range.units e;
      weight = range.weights (e % 3 * 3 + f % 3);
      other = range.units f;
      entry = wide.bound (at_of q e * 48 + at_of q f);
    }

pub overflow_mul-i : goal.overflow_mul-i
overflow_mul-i c = let h = c.requires.2.ends c.args.e in omega arith

pub overflow_mul-c : goal.overflow_mul-c
overflow_mul-c c =
    let a = c.requires.1 in
    let b = c.requires.2.units c.args.e in
    fit (search code_bounds depth 8) tt

pub loop-f-init : goal.loop-f-init
loop-f-init c = plus_none 2304 _ _ _ c.requires.3.long (λ k. sum_zero _)

pub overflow_add-k : goal.overflow_add-k
overflow_add-k c =
    let h : Turn c.args.equation.now c.args.e c.loop-f.f c.args.sign c.loop-f.n = turn_by c.requires.1 c.requires.2 c.requires.3 c.loop-f.auto.f-end c.loop-f.invariant in
    omega arith

pub overflow_mul-w : goal.overflow_mul-w
overflow_mul-w c =
    let h : Turn c.args.equation.now c.args.e c.loop-f.f c.args.sign c.loop-f.n = turn_by c.requires.1 c.requires.2 c.requires.3 c.loop-f.auto.f-end c.loop-f.invariant in
    fit (search code_bounds depth 10) tt

pub overflow_mul-v : goal.overflow_mul-v
overflow_mul-v c =
    let h : Turn c.args.equation.now c.args.e c.loop-f.f c.args.sign c.loop-f.n = turn_by c.requires.1 c.requires.2 c.requires.3 c.loop-f.auto.f-end c.loop-f.invariant in
    fit (search code_bounds depth 12) tt

pub offset_bounds-n-k : goal.offset_bounds-n-k
offset_bounds-n-k c =
    let h : Turn c.args.equation.now c.args.e c.loop-f.f c.args.sign c.loop-f.n = turn_by c.requires.1 c.requires.2 c.requires.3 c.loop-f.auto.f-end c.loop-f.invariant in
    omega arith

pub bounds-n-k : goal.bounds-n-k
bounds-n-k c =
    let h : Turn c.args.equation.now c.args.e c.loop-f.f c.args.sign c.loop-f.n = turn_by c.requires.1 c.requires.2 c.requires.3 c.loop-f.auto.f-end c.loop-f.invariant in
    omega arith

pub overflow_add-n : goal.overflow_add-n
overflow_add-n c =
    let h : Turn c.args.equation.now c.args.e c.loop-f.f c.args.sign c.loop-f.n = turn_by c.requires.1 c.requires.2 c.requires.3 c.loop-f.auto.f-end c.loop-f.invariant in
    entry_fits c.args.equation.now c.args.e c.loop-f.f c.args.sign c.loop-f.n h

pub offset_bounds-n-k-in-loop-f : goal.offset_bounds-n-k-in-loop-f
offset_bounds-n-k-in-loop-f c =
    let h : Turn c.args.equation.now c.args.e c.loop-f.f c.args.sign c.loop-f.n = turn_by c.requires.1 c.requires.2 c.requires.3 c.loop-f.auto.f-end c.loop-f.invariant in
    omega arith

pub bounds-n-k-in-loop-f : goal.bounds-n-k-in-loop-f
bounds-n-k-in-loop-f c =
    let h : Turn c.args.equation.now c.args.e c.loop-f.f c.args.sign c.loop-f.n = turn_by c.requires.1 c.requires.2 c.requires.3 c.loop-f.auto.f-end c.loop-f.invariant in
    omega arith

pub loop-f-preserved : goal.loop-f-preserved
loop-f-preserved c =
    let h : Turn c.args.equation.now c.args.e c.loop-f.f c.args.sign c.loop-f.n = turn_by c.requires.1 c.requires.2 c.requires.3 c.loop-f.auto.f-end c.loop-f.invariant in
    let l = c.loop-f in
    let q = c.args.equation.now in
    let e = c.args.e in
    plus_step 2304 _ _ (sofar q e l.f) (sofar q e (l.f + 1)) _ (at_of q e * 48 + at_of q l.f) (pair_n q e l.f) _ l.invariant (omega arith)
    (λ k. sum-+1 l.f _)
    (entry_step q e l.f c.args.sign l.n h)

pub returns : goal.returns
unfolding row_n
returns c =
    let lent : Equation = c.args.equation.now in
    let l = c.loop-f in
    let six : l.f ≡ 6 = omega arith in
    l.invariant
    ∙ ap (λ (m : ℕ). plus 2304 c.args.n.now (to_z w64 (of_z w64 c.args.sign)) (sofar lent c.args.e m)) six
    ∙ ap (λ (z : ℤ). plus 2304 c.args.n.now z (sofar lent c.args.e 6)) (back c.args.sign c.requires.1 tt)
