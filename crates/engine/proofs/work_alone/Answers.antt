-- The work slice has the length that a candidate asks; the rest is asked of the caller. Assumes nothing.
use Rattle.std.proofs.Common.{arith}
use Rattle.layout.specs.CodecLaws.{fits-room}
use Rattle.engine.proofs.work_alone.Goals as goal

pub candidate-requires : goal.candidate-requires
candidate-requires c = let g = c.requires in omega (arith, fits-room _ g.0)
