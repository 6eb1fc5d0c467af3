-- `put_stations` puts the station list. The loop's invariant: the stations passed stand in their order. Assumes nothing.
use Prim.Native.Nat.{◌*◌}
use mathlib.Core.Path.{◌≡◌}
use lib.ListN.{length}
use Rattle.words.specs.Runs.{put_words}
use Rattle.words.specs.Concat.{concat_below}
use Rattle.layout.specs.Layout.{station_part, stations_start}
use Rattle.layout.proofs.writing.put_stations.Given as goal

abbrev pub invariant-loop-k : goal.invariant-loop-k
invariant-loop-k l = (l.s ≡ put_words l.initial.s (8 * stations_start) (concat_below l.k (station_part l.net))) × (length l.s ≡ length l.initial.s)
