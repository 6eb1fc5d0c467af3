-- `dot` has the sum of the first k products at each turn. Assumes nothing.
use Prim.Native.Nat.{ℕ, ◌<◌, ◌+◌, ◌*◌}
use mathlib.Core.Path.{◌≡◌, sym, ◌∙◌}
use native.Mathlib.Omega.{arith}
use lib.IntN.{ℤ, ◌*ℤ◌}
use Rattle.integers.specs.Sums.{sum as Sum, sum_zero}
use Rattle.integers.specs.Products.{Turn, turn}
use Rattle.acceptance.specs.Loops.{factors}
use Rattle.acceptance.specs.Tests.{at}
use Rattle.acceptance.proofs.products.dot.Goals as goal

pub loop-k-init : goal.loop-k-init
loop-k-init c = sym (sum_zero _)

pub overflow_add-sum : goal.overflow_add-sum
overflow_add-sum c = omega (arith, c.requires.along)

pub offset_bounds-a-row : goal.offset_bounds-a-row
offset_bounds-a-row c = omega (arith, c.requires.along)

pub bounds-a-row : goal.bounds-a-row
bounds-a-row c = omega (arith, c.requires.along)

pub overflow_mul-sum : goal.overflow_mul-sum
overflow_mul-sum c =
    let inside : c.args.column + c.loop-k.k * c.args.stride < lib.ListN.length c.args.b.now = c.requires.inside c.loop-k.k c.loop-k-test.true in
    omega (arith, inside)

pub overflow_add-sum-in-loop-k : goal.overflow_add-sum-in-loop-k
overflow_add-sum-in-loop-k c =
    let inside : c.args.column + c.loop-k.k * c.args.stride < lib.ListN.length c.args.b.now = c.requires.inside c.loop-k.k c.loop-k-test.true in
    omega (arith, inside)

pub offset_bounds-b-column : goal.offset_bounds-b-column
offset_bounds-b-column c =
    let inside : c.args.column + c.loop-k.k * c.args.stride < lib.ListN.length c.args.b.now = c.requires.inside c.loop-k.k c.loop-k-test.true in
    omega (arith, inside)

pub bounds-b-column : goal.bounds-b-column
bounds-b-column c =
    let inside : c.args.column + c.loop-k.k * c.args.stride < lib.ListN.length c.args.b.now = c.requires.inside c.loop-k.k c.loop-k-test.true in
    omega (arith, inside)

pub overflow_mul-sum-in-loop-k : goal.overflow_mul-sum-in-loop-k
overflow_mul-sum-in-loop-k c =
    let left : ℕ → ℤ = λ k. at c.args.a.now (c.args.row + k) in
    let right : ℕ → ℤ = λ k. at c.args.b.now (c.args.column + k * c.args.stride) in
    let this-turn : Turn (left c.loop-k.k) (right c.loop-k.k)
    c.loop-k.sum-bits
    (Sum (c.loop-k.k + 1) (λ k. left k *ℤ right k)) = turn (factors c.requires) c.loop-k-test.true c.loop-k.invariant in
    this-turn.mul

pub overflow_add-sum-in-loop-k-2 : goal.overflow_add-sum-in-loop-k-2
overflow_add-sum-in-loop-k-2 c =
    let left : ℕ → ℤ = λ k. at c.args.a.now (c.args.row + k) in
    let right : ℕ → ℤ = λ k. at c.args.b.now (c.args.column + k * c.args.stride) in
    let this-turn : Turn (left c.loop-k.k) (right c.loop-k.k)
    c.loop-k.sum-bits
    (Sum (c.loop-k.k + 1) (λ k. left k *ℤ right k)) = turn (factors c.requires) c.loop-k-test.true c.loop-k.invariant in
    this-turn.add

pub loop-k-preserved : goal.loop-k-preserved
loop-k-preserved c =
    let left : ℕ → ℤ = λ k. at c.args.a.now (c.args.row + k) in
    let right : ℕ → ℤ = λ k. at c.args.b.now (c.args.column + k * c.args.stride) in
    let this-turn : Turn (left c.loop-k.k) (right c.loop-k.k)
    c.loop-k.sum-bits
    (Sum (c.loop-k.k + 1) (λ k. left k *ℤ right k)) = turn (factors c.requires) c.loop-k-test.true c.loop-k.invariant in
    this-turn.next

pub returns : goal.returns
returns c =
    let e : c.loop-k.k ≡ c.args.n = omega arith in
    c.loop-k.invariant ∙ rw e
