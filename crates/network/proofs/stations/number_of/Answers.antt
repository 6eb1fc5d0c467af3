-- The loop's invariant: n is the number of unknowns passed; a turn adds 0 or 1 (`number-+1`), so the sum fits. Assumes nothing.
use native.Mathlib.Omega.{arith}
use Prim.Native.Nat.{◌+◌, ◌≤◌}
use mathlib.Core.Path.{sym, ap, ap₂, ◌∙◌}
use Rattle.network.specs.Stations.{number}
use Rattle.network.specs.StationLaws.{unknown-bit, number_0, number-+1, number_small}
use Rattle.network.proofs.stations.number_of.Goals as goal

pub loop-i-init : goal.loop-i-init
loop-i-init c = sym (number_0 _)

pub overflow_add-n : goal.overflow_add-n
overflow_add-n c =
    let h : c.unknown_at-n.result ≤ 1 = rw c.unknown_at-n.ensures (unknown-bit c.args.stations c.loop-i.i) in
    let g = number_small c.args.stations c.loop-i.i in
    let e = c.loop-i.invariant in
    omega arith

pub loop-i-preserved : goal.loop-i-preserved
loop-i-preserved c = ap₂ ◌+◌ c.loop-i.invariant c.unknown_at-n.ensures ∙ sym (number-+1 c.args.stations c.loop-i.i)

pub returns : goal.returns
returns c = c.loop-i.invariant ∙ ap (number c.args.stations) (omega arith)
