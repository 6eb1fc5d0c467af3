-- The line begins (`LineBegins`), is read in the state that leaves (`Reads`), its edit made (`EditLeaves`) and its message written: `line-obeyed` puts the
-- four together, and `ready-next` keeps up what the next line asks. Assumes nothing.
use mathlib.Core.Path.{ap, ◌∙◌}
use native.Mathlib.Omega.{arith}
use Prim.Native.Nat.{suc}
use Rattle.input_lines.specs.States.{Ready}
use Rattle.input_lines.specs.StateLaws.{ready-next, line-obeyed}
use Rattle.input_lines.proofs.obeying.obey.Goals as goal

pub read_line-asked-requires : goal.read_line-asked-requires
read_line-asked-requires c =
    let ready-in : Ready c.begin_line-begun.result.state c.begin_line-begun.new.book c.args.list.now c.args.x.now c.args.m.now = c.begin_line-begun.ensures.ready c.requires.ready in
    let r = ready-in in
    record { list_room_in_bounds = (r.room_list, r.room_x, r.room-m); words_le_list_room = (r.words, r.corrections, r.matrix); read_le_lines = (r.read, omega (arith, c.begin_line-begun.ensures.lines, c.requires.lines_lt_most_lines.0)) }

pub edit_opened-answer-requires : goal.edit_opened-answer-requires
edit_opened-answer-requires c =
    let ready-in : Ready c.begin_line-begun.result.state c.begin_line-begun.new.book c.args.list.now c.args.x.now c.args.m.now = c.begin_line-begun.ensures.ready c.requires.ready in
    ready-in.fits

pub write_message-printed-requires : goal.write_message-printed-requires
write_message-printed-requires c = omega (arith, (c.begin_line-begun.ensures.runs c.args.x.now c.args.m.now).few, c.begin_line-begun.auto.out, c.requires.lines_lt_most_lines.1)

pub returns : goal.returns
returns c =
    let ready-in : Ready c.begin_line-begun.result.state c.begin_line-begun.new.book c.args.list.now c.args.x.now c.args.m.now = c.begin_line-begun.ensures.ready c.requires.ready in
    let n = c.begin_line-begun.ensures in
    let q = c.read_line-asked in record {
      runs_to = line-obeyed n q.ensures c.edit_opened-answer.ensures.0 c.write_message-printed.ensures.written c.write_message-printed.ensures.upper_bound;
      ready_2 = (
        ready-next ready-in q.ensures c.edit_opened-answer.auto.book q.auto.list q.auto.x q.auto.m c.edit_opened-answer.ensures.1,
        q.ensures.lines ∙ ap suc n.lines,
      );
    }
