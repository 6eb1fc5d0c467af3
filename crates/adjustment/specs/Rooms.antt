-- A run in the room that a caller lends it. Assumes nothing.
use Rattle.std.specs.Prelude.{◌≡◌, length}
use Rattle.layout.specs.Bytes.{book_of}
use Rattle.text.specs.Lines.{KeptLine, holds}
use Rattle.input_lines.specs.declared.State.{State}
use Rattle.input_lines.specs.Runs.{Run}
use Rattle.input_lines.specs.States.{run_of, Ready}
use Rattle.adjustment.specs.declared.Rooms.{Rooms}
use Rattle.adjustment.specs.declared.Taken.{Taken}

abbrev pub run_in : State → Rooms → Run
run_in s r = run_of s (book_of r.book.now) r.list.now r.x.now r.m.now

abbrev pub ready_in : State → Rooms → Type 0
ready_in s r = Ready s r.book.now r.list.now r.x.now r.m.now

abbrev pub held_in : Taken → Rooms → KeptLine
held_in t r = holds r.line.now t.len t.over

-- the same lent room, each part as long as it was
pub record SameRooms (before after : Rooms) : Type 0 where
  pub line : after.line.ghost_name ≡ before.line.ghost_name
  pub book : after.book.ghost_name ≡ before.book.ghost_name
  pub list : after.list.ghost_name ≡ before.list.ghost_name
  pub x : after.x.ghost_name ≡ before.x.ghost_name
  pub m : after.m.ghost_name ≡ before.m.ghost_name
  pub line_kept : length after.line.now ≡ length before.line.now
  pub book_kept : length after.book.now ≡ length before.book.now
  pub list_kept : length after.list.now ≡ length before.list.now
  pub x_kept : length after.x.now ≡ length before.x.now
  pub m_kept : length after.m.now ≡ length before.m.now
