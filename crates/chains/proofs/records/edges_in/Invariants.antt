-- The edges before place p are filled in (`Mapped`); each turn reads one record of the lent places and puts in its edge.
use Rattle.lists.specs.Filling.{Mapped}
use Rattle.network.specs.Records.{record_at}
use Rattle.network.specs.Places.{places_in}
use Rattle.chains.specs.Chains.{edge}
use Rattle.chains.proofs.records.edges_in.Given as goal

abbrev pub invariant-loop-p : goal.invariant-loop-p
invariant-loop-p l = Mapped 0 256 (λ p'. edge l.c (record_at (places_in l.places) p')) l.initial.out l.out l.p
