-- What a turn's progress says ends the program (`ran_printed`, `ran-refused`, `ran_unread`), as a failed write does (`ran_unwritten`), or leads on (`led_on`).
-- Assumes nothing.
use Rattle.std.proofs.Common.{refl, ◌∙◌, arith}
use Rattle.adjustment.specs.ChunkLaws.{same_rooms, same_then}
use Rattle.adjust.specs.ProgramLaws.{led_start, gave_few, led_on, ran_printed, ran-refused, ran_unread, ran_unwritten}
use Rattle.adjust.proofs.run.Goals as goal

pub loop-init : goal.loop-init
loop-init c =
    let p = c.requires in
    let b = c.begin-taken.ensures in
    record {
      same = same_rooms _;
      chunk_kept = refl;
      out_kept = refl;
      ready = b.ready _ _ _ _ p.1 p.2 p.3 p.4;
      short = omega (arith, b.short);
      lines = omega (arith, b.lines);
      led = led_start (b.run _ _ _ _) (b.blank _);
    }

pub turn-t-requires : goal.turn-t-requires
turn-t-requires c =
    let p = c.requires in
    let i = c.loop.invariant in
    record { ready = i.ready; line_len = (i.same.line_kept ∙ p.0, i.short, omega (arith, i.lines, c.loop-test.true), i.chunk_kept ∙ p.5, omega (arith, i.out_kept, p.6)) }

pub slice_bounds-write_all-end : goal.slice_bounds-write_all-end
slice_bounds-write_all-end c = c.turn-t.ensures.continues.within

pub returns-then-not-write_all : goal.returns-then-not-write_all
returns-then-not-write_all c = ran_unwritten _ _ c.loop.invariant.led

pub returns-in-Finished : goal.returns-in-Finished
returns-in-Finished c = ran_printed c.turn-t.ensures.steps c.loop.invariant.led _ c.in-Finished.is

pub returns-in-Refused : goal.returns-in-Refused
returns-in-Refused c = ran-refused c.turn-t.result.read c.turn-t.ensures.steps c.loop.invariant.led c.in-Refused.is

pub returns-in-Unread : goal.returns-in-Unread
returns-in-Unread c = ran_unread _ _ c.loop.invariant.led

pub loop-preserved : goal.loop-preserved
loop-preserved c =
    let t = c.turn-t in
    let i = c.loop.invariant in
    let e = c.in-Reading.is in
    let n = gave_few t.result.read t.new.chunk in
    let g = t.ensures.continues.lines e in
    record {
      same = same_then i.same t.ensures.same;
      chunk_kept = t.auto.chunk ∙ i.chunk_kept;
      out_kept = t.auto.out ∙ i.out_kept;
      ready = t.ensures.continues.ready e;
      short = t.ensures.continues.short e;
      lines = omega (arith, i.lines, n, g, t.auto.chunk, i.chunk_kept, c.requires.5);
      led = led_on t.ensures.steps i.led e;
    }

pub returns : goal.returns
returns c = ran_unread _ _ c.loop.invariant.led
