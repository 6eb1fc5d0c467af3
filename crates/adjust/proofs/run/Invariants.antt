-- The invariant: the turns so far have led to the run that is kept (`Led`), which is ready for the next, and no buffer has changed its length. Assumes nothing.
use Rattle.std.specs.Prelude.{◌*◌, ◌≤◌, ◌≡◌, length}
use Rattle.commands.specs.Commands.{longest_line}
use Rattle.adjustment.specs.Rooms.{run_in, ready_in, held_in, SameRooms}
use Rattle.adjust.specs.Program.{chunk_room}
use Rattle.adjust.specs.ProgramLaws.{Led}
use Rattle.adjust.proofs.run.Given as goal

abbrev pub invariant-loop : goal.invariant-loop
invariant-loop l =
    record {
      same : SameRooms l.initial.rooms l.rooms;
      chunk_kept : length l.chunk ≡ length l.initial.chunk;
      out_kept : length l.out ≡ length l.initial.out;
      ready : ready_in l.taken.state l.rooms;
      short : l.taken.len ≤ longest_line;
      lines : l.taken.state.lines ≤ l.counter * chunk_room;
      led : Led (run_in l.taken.state l.rooms) (held_in l.taken l.rooms);
    }
