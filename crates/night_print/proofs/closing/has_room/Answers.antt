-- Less room than the end takes is too little; else the test without a product says the same (`room_test`). Assumes nothing.
use Rattle.printing.specs.Rooms.{line_room}
use Rattle.night_print.specs.Closing.{end_room}
use Rattle.night_print.specs.TailLaws.{room_test}
use borrow.Author.Tests.{lt-leb}
use Prim.Native.Nat.{◌+◌, ◌*◌}
use native.Mathlib.Omega.{arith}
use mathlib.Core.Path.{sym}
use Rattle.night_print.proofs.closing.has_room.Goals as goal

pub returns-then-out-lt-END_ROOM : goal.returns-then-out-lt-END_ROOM
returns-then-out-lt-END_ROOM c = sym (lt-leb (line_room * c.args.text + end_room) c.args.out (omega arith))

pub returns : goal.returns
returns c = room_test c.args.text c.args.out (omega arith)
