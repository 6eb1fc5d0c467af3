-- The whole text is one chunk of a run that begins, and what its end prints comes after its messages: `prints-all`. Assumes nothing.
use Prim.Native.Nat.{◌+◌, ◌*◌, ◌≤◌, ◌<◌}
use mathlib.Core.Path.{◌≡◌, ◌∙◌}
use native.Mathlib.Omega.{arith}
use lib.ListN.{length}
use Rattle.printing.specs.Rooms.{line_room}
use Rattle.night_print.specs.Closing.{end_room}
use Rattle.night_print.specs.TailLaws.{lent_length, prints-all}
use Rattle.night_print.proofs.closing.print_all.Goals as goal

pub take_chunk-taken-requires : goal.take_chunk-taken-requires
take_chunk-taken-requires c =
    let p = c.requires in
    let b = c.begin-begun.ensures in
    record { ready = b.ready _ _ _ _ p.1 p.2 p.3 p.4; line_len = (p.0, omega (arith, b.short), omega (arith, b.lines, p.5), omega (arith, p.5)) }

pub slice_bounds-close-count : goal.slice_bounds-close-count
slice_bounds-close-count c =
    let few : c.take_chunk-taken.result.printed ≤ line_room * length c.args.text.now = c.take_chunk-taken.ensures.ready_2.3 in
    let kept : length c.take_chunk-taken.new.out ≡ length c.args.out.now = c.take_chunk-taken.auto.out in
    let room : let a = c.args in line_room * length a.text.now + end_room ≤ length a.out.now = c.requires.5 in
    let inside : c.take_chunk-taken.result.printed ≤ length c.take_chunk-taken.new.out = omega (arith, few, kept, room) in
    inside

pub slice_bounds-close-start : goal.slice_bounds-close-start
slice_bounds-close-start c =
    let few : c.take_chunk-taken.result.printed ≤ line_room * length c.args.text.now = c.take_chunk-taken.ensures.ready_2.3 in
    let kept : length c.take_chunk-taken.new.out ≡ length c.args.out.now = c.take_chunk-taken.auto.out in
    let room : let a = c.args in line_room * length a.text.now + end_room ≤ length a.out.now = c.requires.5 in
    let inside : c.take_chunk-taken.result.printed ≤ length c.take_chunk-taken.new.out = omega (arith, few, kept, room) in
    inside

pub close-n-requires : goal.close-n-requires
close-n-requires c =
    let few : c.take_chunk-taken.result.printed ≤ line_room * length c.args.text.now = c.take_chunk-taken.ensures.ready_2.3 in
    let kept : length c.take_chunk-taken.new.out ≡ length c.args.out.now = c.take_chunk-taken.auto.out in
    let room : let a = c.args in line_room * length a.text.now + end_room ≤ length a.out.now = c.requires.5 in
    let inside : c.take_chunk-taken.result.printed ≤ length c.take_chunk-taken.new.out = omega (arith, few, kept, room) in
    record {
      ready = c.take_chunk-taken.ensures.ready_2.0;
      line_len = (
        c.take_chunk-taken.ensures.same.line_kept ∙ c.requires.0,
        c.take_chunk-taken.ensures.ready_2.1,
        omega (arith, c.take_chunk-taken.ensures.ready_2.2, c.begin-begun.ensures.lines, c.requires.5),
        omega (arith, lent_length c.take_chunk-taken.result.printed c.take_chunk-taken.new.out inside, few, kept, room),
      );
    }

pub overflow_add-result : goal.overflow_add-result
overflow_add-result c =
    let bound : length c.args.out.now < 18446744073709551616 = omega arith in
    let few : c.take_chunk-taken.result.printed ≤ line_room * length c.args.text.now = c.take_chunk-taken.ensures.ready_2.3 in
    let room : let a = c.args in line_room * length a.text.now + end_room ≤ length a.out.now = c.requires.5 in
    omega (arith, few, room, bound, c.close-n.ensures.concludes.small)

pub returns : goal.returns
returns c =
    let few : c.take_chunk-taken.result.printed ≤ line_room * length c.args.text.now = c.take_chunk-taken.ensures.ready_2.3 in
    let kept : length c.take_chunk-taken.new.out ≡ length c.args.out.now = c.take_chunk-taken.auto.out in
    let room : let a = c.args in line_room * length a.text.now + end_room ≤ length a.out.now = c.requires.5 in
    let b = c.begin-begun.ensures in
    prints-all
    room
    kept
    c.close-n.auto.out
    few
    (b.run _ _ _ _)
    (b.blank _)
    c.take_chunk-taken.ensures.takes
    c.close-n.ensures.concludes
