-- The loop fills the table from the front: `Mapped` is the invariant, with n the number of unknowns passed; n is small and a bit is 0 or 1, so the product fits. Assumes nothing.
use borrow.Author.Rules.{rules}
use native.Mathlib.Omega.{arith}
use native.Mathlib.Nat.{le_refl, mul-le-mul}
use Prim.Native.Nat.{◌+◌, ◌*◌, ◌≤◌}
use mathlib.Core.Path.{sym, ap₂, ◌∙◌}
use Rattle.network.specs.Stations.{unknown_index}
use Rattle.network.specs.StationLaws.{unknown-bit, number_0, number-+1, number_small}
use Rattle.lists.specs.Filling.{starts, goes_on, finish}
use Rattle.network.proofs.stations.numbers_of.Goals as goal

pub loop-q-init : goal.loop-q-init
loop-q-init c = (sym (number_0 _), starts 0 96 _ _ (search rules))

pub overflow_mul-out : goal.overflow_mul-out
overflow_mul-out c =
    let h : c.unknown_at-b.result ≤ 1 = rw c.unknown_at-b.ensures (unknown-bit c.args.stations c.loop-q.q) in
    let g = number_small c.args.stations c.loop-q.q in
    let e = c.loop-q.invariant.0 in
    record { fits = omega (arith, mul-le-mul h (le_refl c.loop-q.n)) }

pub overflow_add-n : goal.overflow_add-n
overflow_add-n c =
    let h : c.unknown_at-b.result ≤ 1 = rw c.unknown_at-b.ensures (unknown-bit c.args.stations c.loop-q.q) in
    let g = number_small c.args.stations c.loop-q.q in
    let e = c.loop-q.invariant.0 in
    omega arith

pub loop-q-preserved : goal.loop-q-preserved
unfolding unknown_index
loop-q-preserved c =
    let e = c.loop-q.invariant.0 in
    (ap₂ ◌+◌ e c.unknown_at-b.ensures ∙ sym (number-+1 c.args.stations c.loop-q.q), goes_on 0 96 _ _ c.loop-q.out c.loop-q.q _ (omega arith) c.loop-q.invariant.1 (ap₂ ◌*◌ c.unknown_at-b.ensures e))

pub returns : goal.returns
returns c = finish 0 96 _ _ c.loop-q.out c.loop-q.q (omega arith) c.loop-q.invariant.1
