-- `stations_laid` tests the words of the stations. The loop's invariant: those passed are laid out. Assumes nothing.
use mathlib.Core.Path.{◌≡◌}
use mathlib.Core.Bool.{true}
use Rattle.lists.specs.All.{all_below}
use Rattle.layout.specs.Laid.{station_laid}
use Rattle.layout.specs.Bytes.{words_of}
use Rattle.layout.proofs.laid.stations_laid.Given as goal

abbrev pub invariant-loop-k : goal.invariant-loop-k
invariant-loop-k l = all_below l.k (station_laid (words_of l.s)) ≡ true
