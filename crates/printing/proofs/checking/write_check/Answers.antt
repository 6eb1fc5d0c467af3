-- A sheet takes at most 2,021 words (`room_small`), so the part lent is inside. Assumes nothing.
use native.Mathlib.Omega.{arith}
use mathlib.Core.Path.{refl}
use Rattle.layout.specs.Bytes.{book_of}
use Rattle.layout.specs.CodecLaws.{fits-network}
use Rattle.sheet.specs.Totals.{room_small}
use Rattle.printing.proofs.checking.write_check.Goals as goal

pub slice_bounds-words-end : goal.slice_bounds-words-end
slice_bounds-words-end c =
    let b = book_of c.args.s.now in
    omega (arith, room_small b.network b.places (fits-network _ c.requires.0 b.network refl).0, c.room_in-room.ensures, c.zeros-words.ensures)
