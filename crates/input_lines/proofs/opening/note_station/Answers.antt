-- By whether the list has room for four words more: they are stored after the others (`note_room`), or nothing is (`note_full`). Assumes nothing.
use native.Mathlib.Omega.{arith}
use Rattle.input_lines.specs.StateLaws.{note_room, note_full}
use Rattle.input_lines.proofs.opening.note_station.Goals as goal

pub put_station-requires : goal.put_station-requires
put_station-requires c = omega arith

pub overflow_add-result : goal.overflow_add-result
overflow_add-result c = omega arith

pub returns-then-words-le-LIST_ROOM : goal.returns-then-words-le-LIST_ROOM
returns-then-words-le-LIST_ROOM c = note_room c.args.list.now c.args.words c.args.s c.requires.0 _ c.if-words-le-LIST_ROOM.true c.put_station.ensures

pub returns : goal.returns
returns c = note_full c.args.list.now c.args.words c.args.s c.requires.0 c.if-words-le-LIST_ROOM.false c.requires.1
