-- The loop's invariant: n is the number of unknowns passed; a turn adds 0 or 1 (`number-+1`), so the sum fits. Assumes nothing.
use mathlib.Core.Path.{◌≡◌}
use Rattle.network.specs.Stations.{number}
use Rattle.network.proofs.stations.number_of.Given as goal

abbrev pub invariant-loop-i : goal.invariant-loop-i
invariant-loop-i l = l.n ≡ number l.stations l.i
