-- The sheet is printed over the parts of the book that the bytes hold; its words are as many as its lines take (`global_room_lem`). Assumes nothing.
use borrow.Author.Rules.{rules}
use native.Mathlib.Omega.{arith}
use Prim.Native.Nat.{◌≤◌}
use lib.ListN.{length}
use Rattle.network.specs.Places.{places_length}
use Rattle.layout.specs.Bytes.{book_of}
use Rattle.layout.specs.CodecLaws.{fits-room, fits-network}
use Rattle.printing.specs.SheetTextLaws.{global_room_lem}
use Rattle.printing.proofs.checking.write_words.Goals as goal

pub network_in-net-requires : goal.network_in-net-requires
network_in-net-requires c = fits-room _ c.requires.0

pub places_in-places-requires : goal.places_in-places-requires
places_in-places-requires c = fits-room _ c.requires.0

pub write_sheet-requires : goal.write_sheet-requires
write_sheet-requires c =
    let long : places_length ≤ length c.places_in-places.result = search rules in
    let b = book_of c.args.s.now in
    let few = (fits-network _ c.requires.0 _ c.network_in-net.ensures).0 in
    rw (c.network_in-net.ensures, c.places_in-places.ensures) (rw c.network_in-net.ensures at few, long, omega (arith, global_room_lem b.network b.places, c.requires.1), c.requires.2)

pub returns : goal.returns
returns c = rw (c.network_in-net.ensures, c.places_in-places.ensures) at c.write_sheet.ensures
