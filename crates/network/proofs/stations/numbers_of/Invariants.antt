-- The loop fills the table from the front: `Mapped` is the invariant, with n the number of unknowns passed; n is small and a bit is 0 or 1, so the product fits. Assumes nothing.
use mathlib.Core.Path.{◌≡◌}
use Rattle.network.specs.Stations.{number, unknown_index}
use Rattle.lists.specs.Filling.{Mapped}
use Rattle.network.proofs.stations.numbers_of.Given as goal

abbrev pub invariant-loop-q : goal.invariant-loop-q
invariant-loop-q l = (l.n ≡ number l.stations l.q) × Mapped 0 96 (unknown_index l.stations) l.initial.out l.out l.q
