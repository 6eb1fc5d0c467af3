-- `unknowns_before` goes over the stations before s. The loop's invariant: the unknowns of those passed are counted. Assumes nothing.
use Prim.Native.Nat.{◌+◌, ◌*◌}
use mathlib.Core.Path.{◌≡◌, sym, ap, ap₂, ◌∙◌}
use lib.ListN.{get_or}
use native.Mathlib.Omega.{arith}
use Rattle.network.specs.Stations.{number}
use Rattle.network.specs.StationLaws.{number_0}
use Rattle.normals.proofs.StationNumbers.{number-next, Counts, counts_in, first, second, third}
use Rattle.normals.proofs.shares.unknowns_before.Goals as goal

pub loop-k-init : goal.loop-k-init
loop-k-init c = sym (number_0 _)

pub overflow_add-n : goal.overflow_add-n
overflow_add-n c =
    let h : Counts c.loop-k.n (get_or c.unknowns_in-c.result 0 0) (get_or c.unknowns_in-c.result 1 0) (get_or c.unknowns_in-c.result 2 0) = counts_in _ c.unknowns_in-c.ensures c.args.stations c.loop-k.k (let h = c.requires in omega arith) _ c.loop-k.invariant in
    omega arith

pub overflow_add-n-in-loop-k : goal.overflow_add-n-in-loop-k
overflow_add-n-in-loop-k c =
    let h : Counts c.loop-k.n (get_or c.unknowns_in-c.result 0 0) (get_or c.unknowns_in-c.result 1 0) (get_or c.unknowns_in-c.result 2 0) = counts_in _ c.unknowns_in-c.ensures c.args.stations c.loop-k.k (let h = c.requires in omega arith) _ c.loop-k.invariant in
    omega arith

pub overflow_add-n-in-loop-k-2 : goal.overflow_add-n-in-loop-k-2
overflow_add-n-in-loop-k-2 c =
    let h : Counts c.loop-k.n (get_or c.unknowns_in-c.result 0 0) (get_or c.unknowns_in-c.result 1 0) (get_or c.unknowns_in-c.result 2 0) = counts_in _ c.unknowns_in-c.ensures c.args.stations c.loop-k.k (let h = c.requires in omega arith) _ c.loop-k.invariant in
    omega arith

pub loop-k-preserved : goal.loop-k-preserved
loop-k-preserved c = ap₂ ◌+◌ (ap₂ ◌+◌ (ap₂ ◌+◌ c.loop-k.invariant (first _ c.unknowns_in-c.ensures)) (second _ c.unknowns_in-c.ensures)) (third _ c.unknowns_in-c.ensures) ∙ sym (number-next c.args.stations c.loop-k.k)

pub returns : goal.returns
returns c =
    let done : c.loop-k.k * 3 ≡ c.args.s * 3 = omega arith in
    c.loop-k.invariant ∙ ap (number c.args.stations) done
