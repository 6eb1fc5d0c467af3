-- What read gave is the front of the chunk (`bytes_read`), and a step takes it. Assumes nothing.
use Rattle.std.proofs.Common.{◌≡◌, ◌≤◌, ◌∙◌, length, arith}
use Rattle.adjust.specs.Program.{chunk_room, read_gave}
use Rattle.adjust.specs.ProgramLaws.{gave_few}
use Rattle.adjust.proofs.turn.Goals as goal

pub step-stepped-requires : goal.step-stepped-requires
step-stepped-requires c =
    let e = c.bytes_read-came.ensures.gave in
    let r = c.requires.line_len in
    let long : length c.read_chunk-read.new.chunk ≡ chunk_room = c.read_chunk-read.auto.chunk ∙ r.3 in
    let few = gave_few c.read_chunk-read.result c.read_chunk-read.new.chunk in
    record { ready = c.requires.ready; line_len = (r.0, r.1, rw e (omega (arith, few, long, r.2)), rw e (omega (arith, few, long, r.4)), omega (arith, r.4)) }

pub returns : goal.returns
returns c =
    let b = c.bytes_read-came.ensures in
    let s = c.step-stepped.ensures in
    record { same = s.same; steps = rw (b.failed, b.gave) at s.steps; continues = rw b.gave at s.continues }
