-- Where a line is held, the LF that it lacks is taken as a chunk, and what the end prints comes after its messages (`closes-line`); else the end alone prints
-- (`closes_none`). Assumes nothing.
use Prim.Native.Nat.{◌≤◌}
use mathlib.Core.Path.{◌≡◌, sym, ◌∙◌}
use mathlib.Core.Bool.{◌||◌}
use native.Mathlib.Omega.{arith}
use lib.Dec.{ltb}
use lib.ListN.{length}
use Rattle.text.specs.Lines.{holds, is_line}
use Rattle.text.specs.LineLaws.{is_line_lem}
use Rattle.printing.specs.Rooms.{line_room}
use Rattle.night_print.specs.Closing.{end_room}
use Rattle.night_print.specs.TailLaws.{lent_length, closes_none, closes-line}
use Rattle.adjustment.specs.ChunkLaws.{same_then}
use Rattle.night_print.proofs.closing.close.Goals as goal

pub take_chunk-last-requires : goal.take_chunk-last-requires
take_chunk-last-requires c = record { ready = c.requires.ready; line_len = (c.requires.line_len.0, c.requires.line_len.1, c.requires.line_len.2, omega (arith, c.requires.line_len.3)) }

pub slice_bounds-finish-count : goal.slice_bounds-finish-count
slice_bounds-finish-count c =
    let few : c.take_chunk-last.result.printed ≤ line_room = omega (arith, c.take_chunk-last.ensures.ready_2.3) in
    let kept : length c.take_chunk-last.new.out ≡ length c.args.out.now = c.take_chunk-last.auto.out in
    let room : end_room ≤ length c.args.out.now = c.requires.line_len.3 in
    let inside : c.take_chunk-last.result.printed ≤ length c.take_chunk-last.new.out = omega (arith, few, kept, room) in
    inside

pub slice_bounds-finish-start : goal.slice_bounds-finish-start
slice_bounds-finish-start c =
    let few : c.take_chunk-last.result.printed ≤ line_room = omega (arith, c.take_chunk-last.ensures.ready_2.3) in
    let kept : length c.take_chunk-last.new.out ≡ length c.args.out.now = c.take_chunk-last.auto.out in
    let room : end_room ≤ length c.args.out.now = c.requires.line_len.3 in
    let inside : c.take_chunk-last.result.printed ≤ length c.take_chunk-last.new.out = omega (arith, few, kept, room) in
    inside

pub finish-n-requires : goal.finish-n-requires
finish-n-requires c =
    let few : c.take_chunk-last.result.printed ≤ line_room = omega (arith, c.take_chunk-last.ensures.ready_2.3) in
    let kept : length c.take_chunk-last.new.out ≡ length c.args.out.now = c.take_chunk-last.auto.out in
    let room : end_room ≤ length c.args.out.now = c.requires.line_len.3 in
    let inside : c.take_chunk-last.result.printed ≤ length c.take_chunk-last.new.out = omega (arith, few, kept, room) in
    (c.take_chunk-last.ensures.ready_2.0, omega (arith, lent_length c.take_chunk-last.result.printed c.take_chunk-last.new.out inside, few, kept, room))

pub returns-then-is_line : goal.returns-then-is_line
returns-then-is_line c =
    let held : is_line (holds c.args.rooms.now.line.now c.args.taken.len c.args.taken.over) ≡ (c.args.taken.over || ltb 0 c.args.taken.len) = is_line_lem c.args.rooms.now.line.now c.args.taken.len c.args.taken.over (omega (arith, c.requires.line_len.0, c.requires.line_len.1)) in
    let few : c.take_chunk-last.result.printed ≤ line_room = omega (arith, c.take_chunk-last.ensures.ready_2.3) in
    let kept : length c.take_chunk-last.new.out ≡ length c.args.out.now = c.take_chunk-last.auto.out in
    let room : end_room ≤ length c.args.out.now = c.requires.line_len.3 in
    record {
      same = same_then c.take_chunk-last.ensures.same c.finish-n.ensures.same;
      concludes = closes-line
          (held ∙ sym c.is_line.ensures ∙ c.if-is_line.true)
          room
          kept
          few
          c.take_chunk-last.ensures.takes
          c.finish-n.ensures.ends;
    }

pub finish-requires : goal.finish-requires
finish-requires c = (c.requires.ready, omega (arith, c.requires.line_len.3))

pub returns : goal.returns
returns c =
    let held : is_line (holds c.args.rooms.now.line.now c.args.taken.len c.args.taken.over) ≡ (c.args.taken.over || ltb 0 c.args.taken.len) = is_line_lem c.args.rooms.now.line.now c.args.taken.len c.args.taken.over (omega (arith, c.requires.line_len.0, c.requires.line_len.1)) in
    record { same = c.finish.ensures.same; concludes = closes_none (held ∙ sym c.is_line.ensures ∙ c.if-is_line.false) c.requires.line_len.3 c.finish.ensures.ends }
