-- The invariant: the numbers of the first i stations stand first. Assumes nothing.
use Rattle.std.proofs.Common.{◌≡◌, ◌*◌, take}
use Rattle.network.specs.StationWords.{flat}
use Rattle.stations.proofs.flat_words.Given as goal

abbrev pub invariant-loop-i : goal.invariant-loop-i
invariant-loop-i l = take (l.i * 4) l.out ≡ flat (take l.i l.list)
