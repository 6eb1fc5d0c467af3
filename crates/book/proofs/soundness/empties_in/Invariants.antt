-- `empties_in` fills the table from the front: `Mapped` is the invariant. Assumes nothing.
use mathlib.Core.Bool.{false}
use Rattle.lists.specs.Filling.{Mapped}
use Rattle.network.specs.Records.{record_at, is_empty}
use Rattle.network.specs.Places.{places_in}
use Rattle.book.proofs.soundness.empties_in.Given as goal

abbrev pub invariant-loop-p : goal.invariant-loop-p
invariant-loop-p l = Mapped false 256 (λ p'. is_empty (record_at (places_in l.places) p')) l.initial.empty l.empty l.p
