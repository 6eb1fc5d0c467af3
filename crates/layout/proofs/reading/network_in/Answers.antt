-- `network_in` reads the station list. Assumes nothing.
use mathlib.Core.Path.{ap, ◌∙◌}
use mathlib.Core.List.{List}
use lib.IntN.{ℤ}
use Rattle.integers.specs.Tables.{tabulate}
use Rattle.network.specs.Stations.{station_in, network_of}
use Rattle.network.specs.declared.Network.{Network}
use Rattle.layout.specs.Layout.{book_in}
use Rattle.layout.proofs.reading.network_in.Goals as goal

pub returns : goal.returns
unfolding book_in network_of
returns c =
    let n = c.network_of-read in
    λ i. record {
      count = c.count_in-count.ensures i;
      stations = (ap (λ (x : Network). x.stations) n.ensures ∙ ap (λ (w : List ℤ). tabulate 32 (station_in w)) c.stations_at-w.ensures) i;
    }
