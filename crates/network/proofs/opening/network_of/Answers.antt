-- The loop fills the stations from the front: `Mapped` is the invariant, and `finish` makes it the whole list. Assumes nothing.
use borrow.Author.Rules.{rules}
use native.Mathlib.Omega.{arith}
use Prim.Native.Nat.{◌/◌}
use mathlib.Core.Path.{ap}
use mathlib.Core.List.{List}
use lib.ListN.{length}
use Rattle.network.specs.declared.Station.{Station}
use Rattle.network.specs.Stations.{blank_station, network_of}
use Rattle.lists.specs.Filling.{starts, goes_on, finish}
use Rattle.network.proofs.opening.network_of.Goals as goal

pub loop-s-init : goal.loop-s-init
loop-s-init c = starts blank_station 32 _ _ (search rules)

pub loop-s-preserved : goal.loop-s-preserved
loop-s-preserved c = goes_on blank_station 32 _ _ c.loop-s.stations c.loop-s.s _ (omega arith) c.loop-s.invariant c.station_in.ensures

pub returns : goal.returns
unfolding network_of
returns c =
    ap (λ (l : List Station). record { count = length c.args.list.now / 4; stations = l })
    (finish blank_station 32 _ _ c.loop-s.stations c.loop-s.s (omega arith) c.loop-s.invariant)
