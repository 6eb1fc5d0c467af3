-- The loop fills the table from the front: `Mapped` is the invariant; each coordinate is read back from its bits. Assumes nothing.
use lib.IntN.{pos}
use Rattle.network.specs.Stations.{coordinate}
use Rattle.lists.specs.Filling.{Mapped}
use Rattle.network.proofs.stations.coordinates_of.Given as goal

abbrev pub invariant-loop-q : goal.invariant-loop-q
invariant-loop-q l = Mapped (pos 0) 96 (coordinate l.stations) l.initial.out l.out l.q
