-- The loop fills the table from the front: `Mapped` is the invariant; an entry is 0 or 1, so the cast keeps it (`bit_cast`). Assumes nothing.
use lib.IntN.{pos}
use Rattle.network.specs.Stations.{unknown}
use Rattle.lists.specs.Filling.{Mapped}
use Rattle.network.proofs.stations.unknowns_of.Given as goal

abbrev pub invariant-loop-q : goal.invariant-loop-q
invariant-loop-q l = Mapped (pos 0) 96 (λ k. pos (unknown l.stations k)) l.initial.out l.out l.q
