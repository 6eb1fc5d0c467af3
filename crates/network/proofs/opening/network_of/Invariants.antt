-- The loop fills the stations from the front: `Mapped` is the invariant, and `finish` makes it the whole list. Assumes nothing.
use Rattle.network.specs.Stations.{blank_station, station_in}
use Rattle.lists.specs.Filling.{Mapped}
use Rattle.network.proofs.opening.network_of.Given as goal

abbrev pub invariant-loop-s : goal.invariant-loop-s
invariant-loop-s l = Mapped blank_station 32 (station_in l.list) l.initial.stations l.stations l.s
