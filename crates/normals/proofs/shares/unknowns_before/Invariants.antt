-- `unknowns_before` goes over the stations before s. The loop's invariant: the unknowns of those passed are counted. Assumes nothing.
use Prim.Native.Nat.{◌*◌}
use mathlib.Core.Path.{◌≡◌}
use Rattle.network.specs.Stations.{number}
use Rattle.normals.proofs.shares.unknowns_before.Given as goal

abbrev pub invariant-loop-k : goal.invariant-loop-k
invariant-loop-k l = l.n ≡ number l.stations (l.k * 3)
