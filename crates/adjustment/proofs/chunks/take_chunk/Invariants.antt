-- The invariant is `Middle`: what is ahead from here is what was ahead from the chunk's start. The measure is what is left of the chunk. Assumes nothing.
use Rattle.std.specs.Prelude.{◌-◌, length}
use Rattle.adjustment.specs.ChunkLaws.{Middle}
use Rattle.adjustment.proofs.chunks.take_chunk.Given as goal

abbrev pub invariant-loop-at : goal.invariant-loop-at
invariant-loop-at l = Middle l.fn.taken l.initial.rooms l.chunk l.initial.out l.reached l.rooms l.len l.over l.at l.out

abbrev pub decreases-loop-at : goal.decreases-loop-at
decreases-loop-at l = length l.chunk - l.at
