-- The loop's invariant: n unknowns are passed, and the entries below n are their components (`Listed`); a turn is `listing_puts` or `listing_skips`. Assumes nothing.
use mathlib.Core.Path.{◌≡◌}
use Rattle.network.specs.Stations.{number}
use Rattle.network.proofs.Listing.{Listed}
use Rattle.network.proofs.stations.components_of.Given as goal

abbrev pub invariant-loop-q : goal.invariant-loop-q
invariant-loop-q l = (l.n ≡ number l.stations l.q) × Listed l.stations l.out l.n
