-- `normal_residual` has the first i entries of u − Nx at each turn. Assumes nothing.
use Prim.Native.Nat.{◌≤◌, ◌*◌, ◌^◌}
use mathlib.Core.Path.{refl, ap, ◌∙◌}
use native.Mathlib.Omega.{arith}
use borrow.Author.Rules.{rules}
use lib.IntN.{ℤ, pos, nat_abs, ◌-ℤ◌}
use Rattle.lists.specs.Filling.{starts, goes_on}
use Rattle.acceptance.specs.Tests.{at}
use Rattle.acceptance.specs.Loops.{normal-factors, vector_dot, dot_small, Difference, difference}
use Rattle.acceptance.proofs.refinement.normal_residual.Goals as goal

pub loop-i-init : goal.loop-i-init
loop-i-init c = starts (pos 0) 48 _ _ (search rules)

pub overflow_mul-i : goal.overflow_mul-i
overflow_mul-i c = let f = c.requires.few in omega arith

pub dot-d-requires : goal.dot-d-requires
dot-d-requires c = normal-factors c.requires c.loop-i.i c.loop-i-test.true

pub bounds-right-i : goal.bounds-right-i
bounds-right-i c = let f = c.requires.few in search rules

pub overflow_sub-r : goal.overflow_sub-r
overflow_sub-r c =
    let small : nat_abs c.dot-d.result ≤ 48 * 2 ^ 57 = rw c.dot-d.ensures (dot_small (normal-factors c.requires c.loop-i.i c.loop-i-test.true)) in
    let less : Difference (at c.args.right.now c.loop-i.i) c.dot-d.result = let b = c.requires.absolute.bound c.loop-i.i in difference _ _ (omega (arith, small)) in
    less.fits

pub bounds-out-i : goal.bounds-out-i
bounds-out-i c = let f = c.requires.few in omega arith

pub loop-i-preserved : goal.loop-i-preserved
loop-i-preserved c =
    let small : nat_abs c.dot-d.result ≤ 48 * 2 ^ 57 = rw c.dot-d.ensures (dot_small (normal-factors c.requires c.loop-i.i c.loop-i-test.true)) in
    let less : Difference (at c.args.right.now c.loop-i.i) c.dot-d.result = let b = c.requires.absolute.bound c.loop-i.i in difference _ _ (omega (arith, small)) in
    let f = c.requires.few in
    goes_on (pos 0) 48 _ _ c.loop-i.out c.loop-i.i _ (omega arith) c.loop-i.invariant
    (less.is
    ∙ ap (λ (z : ℤ). at c.args.right.now c.loop-i.i -ℤ z)
    (c.dot-d.ensures ∙ vector_dot c.args.n c.args.normal.now c.args.x.now (c.loop-i.i * 48) c.loop-i.i 48 refl))

pub returns : goal.returns
returns c = record { room = c.loop-i.invariant.long; is = λ k h. c.loop-i.invariant.done k (omega arith) }
