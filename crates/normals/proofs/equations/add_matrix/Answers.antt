-- `add_matrix` adds a record's share to N. The loop's invariant: the ends passed are added. Assumes nothing.
use native.Mathlib.Omega.{arith}
use Prim.Native.Nat.{ℕ, ◌+◌, ◌^◌}
use mathlib.Core.Path.{◌≡◌, ap, ◌∙◌}
use mathlib.Core.List.{List}
use lib.IntN.{ℤ}
use mir.Syntax.{w64}
use mir.Val.{to_z, of_z}
use lib.Dec.{lit≤}
use Rattle.integers.specs.Sums.{sum-+1, sum_zero}
use Rattle.normals.specs.declared.Equation.{Equation}
use Rattle.integers.specs.Tables.{plus, plus_none, plus-plus, Within, within-plus, within_more}
use Rattle.lists.specs.Stored.{back, kept}
use Rattle.normals.specs.Equations.{row_n, block_n}
use Rattle.normals.specs.EquationSizes.{rows-size}
use Rattle.normals.proofs.equations.add_matrix.Invariants.{sofar}
use Rattle.normals.proofs.equations.add_matrix.Goals as goal

pub loop-e-init : goal.loop-e-init
loop-e-init c = plus_none 2304 _ _ _ c.requires.2.long (λ k. sum_zero _)

pub add_row-requires : goal.add_row-requires
add_row-requires c =
    let small : Within 2304 (2 ^ 41) c.loop-e.n = rw c.loop-e.invariant (within_more 2304 (2 ^ 40 + 360000) (2 ^ 41) _ (lit≤ tt) (within-plus 2304 _ _ _ (2 ^ 40) 360000 (kept c.args.sign c.requires.0 tt) c.requires.2 (λ k. rows-size _ c.requires.1 _ k c.loop-e.auto.e-end))) in
    (omega arith, kept c.args.sign c.requires.0 tt, c.requires.1, small)

pub loop-e-preserved : goal.loop-e-preserved
loop-e-preserved c =
    let lent : Equation = c.args.equation in
    let l = c.loop-e in let q = lent in
    c.add_row.ensures
    ∙ ap (λ (m : List ℤ). plus 2304 m (to_z w64 (of_z w64 c.args.sign)) (row_n q l.e)) l.invariant
    ∙ plus-plus 2304 _ _ (sofar q l.e) (row_n q l.e) (sofar q (l.e + 1)) (λ k. sum-+1 l.e _)

pub returns : goal.returns
unfolding block_n row_n
returns c =
    let lent : Equation = c.args.equation in
    let l = c.loop-e in
    let six : l.e ≡ 6 = omega arith in
    l.invariant
    ∙ ap (λ (m : ℕ). plus 2304 c.args.n.now (to_z w64 (of_z w64 c.args.sign)) (sofar lent m)) six
    ∙ ap (λ (z : ℤ). plus 2304 c.args.n.now z (sofar lent 6)) (back c.args.sign c.requires.0 tt)
