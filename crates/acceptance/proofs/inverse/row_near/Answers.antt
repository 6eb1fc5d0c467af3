-- `row_near` has the sum of the first j sizes at each turn, at most the limit. Assumes nothing.
use Prim.Native.Nat.{ℕ, ◌+◌}
use mathlib.Core.Path.{◌≡◌, sym}
use native.Mathlib.Omega.{arith}
use lib.IntN.{nat_abs}
use Rattle.integers.specs.Sums.{sum_n, sum_n_zero}
use Rattle.integers.specs.Inverses.{defect}
use Rattle.acceptance.specs.Tests.{by_rows}
use Rattle.acceptance.specs.Loops.{total-more, total_over, total-under}
use Rattle.acceptance.proofs.inverse.row_near.Goals as goal

pub loop-j-init : goal.loop-j-init
loop-j-init c = (sym (sum_n_zero _), omega arith)

pub defect_size-sum-requires : goal.defect_size-sum-requires
defect_size-sum-requires c = record { defect_range = c.requires.defect_range; inside = (c.requires.inside, c.loop-j-test.true) }

pub overflow_add-sum : goal.overflow_add-sum
overflow_add-sum c = omega (arith, c.defect_size-sum.ensures.small, c.loop-j.invariant.1)

pub returns-then-sum-gt-DEFECT : goal.returns-then-sum-gt-DEFECT
returns-then-sum-gt-DEFECT c =
    let sizes : ℕ → ℕ = λ j. nat_abs (defect c.args.n (by_rows 48 c.args.normal.now) (by_rows c.args.n c.args.m.now) c.args.i j) in
    let grown : c.loop-j.sum + c.defect_size-sum.result ≡ sum_n (c.loop-j.j + 1) sizes = total-more sizes c.loop-j.invariant.0 c.defect_size-sum.ensures.value in
    sym (total_over sizes 67108864 _ grown c.loop-j-test.true c.if-sum-gt-DEFECT.true)

pub loop-j-preserved : goal.loop-j-preserved
loop-j-preserved c =
    let sizes : ℕ → ℕ = λ j. nat_abs (defect c.args.n (by_rows 48 c.args.normal.now) (by_rows c.args.n c.args.m.now) c.args.i j) in
    let grown : c.loop-j.sum + c.defect_size-sum.result ≡ sum_n (c.loop-j.j + 1) sizes = total-more sizes c.loop-j.invariant.0 c.defect_size-sum.ensures.value in
    (grown, c.if-sum-gt-DEFECT.false)

pub returns : goal.returns
returns c =
    let sizes : ℕ → ℕ = λ j. nat_abs (defect c.args.n (by_rows 48 c.args.normal.now) (by_rows c.args.n c.args.m.now) c.args.i j) in
    sym (total-under sizes 67108864 _ c.loop-j.invariant.0 (omega arith) c.loop-j.invariant.1)
