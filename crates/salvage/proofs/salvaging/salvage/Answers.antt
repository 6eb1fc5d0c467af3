-- It counts, tests the room, and writes. Assumes nothing.
use mathlib.Core.Path.{◌∙◌}
use Rattle.salvage.proofs.Room.{room-is, gives-no_room, gives_all}
use Rattle.salvage.proofs.salvaging.salvage.Goals as goal

pub returns-then-not-room_for : goal.returns-then-not-room_for
returns-then-not-room_for c = gives-no_room _ _ _ _ c.salvage_counts-n.ensures c.room_for.ensures c.if-not-room_for.true

pub write_salvaged-requires : goal.write_salvaged-requires
write_salvaged-requires c =
    let a = c.args in
    room-is _ a.fresh.now a.skipped.now a.kept.now c.salvage_counts-n.ensures c.room_for.ensures ∙ c.if-not-room_for.false

pub returns : goal.returns
returns c =
    let p = c.write_salvaged.ensures in
    gives_all _ _ _ _ c.salvage_counts-n.ensures c.room_for.ensures c.if-not-room_for.false p.0 p.1 p.2
