-- The answer is that of the book which the bytes hold, with the room that its sheet takes (`answered`); an accepted pair is in the ranges that the sheet asks for, and the words afterwards
-- follow from the answer (`after-accepted`, `after-refused`).
use Rattle.acceptance.specs.Judge.{Answer}
use Rattle.std.proofs.lemmas.Result.{err_from_is_err_and}
use Prim.Native.Nat.{◌≤◌}
use mathlib.Core.Path.{◌≡◌, sym, ◌∙◌}
use lib.ListN.{length}
use borrow.Author.Rules.{rules}
use Rattle.network.specs.Places.{places_length}
use Rattle.network.specs.RuleLaws.{network_few}
use Rattle.acceptance.specs.Exactly.{answer}
use Rattle.book.specs.declared.Book.{Book}
use Rattle.layout.specs.Bytes.{book_of}
use Rattle.layout.specs.CodecLaws.{fits-room, fits-tested, fits-sound}
use Rattle.checks.specs.Checks.{checked, has_room}
use Rattle.checks.specs.CheckLaws.{checked-is, solved, inverse, room-enough, after-accepted, after-refused}
use Rattle.checks.proofs.check_sheet_in.Goals as goal

pub network_in-net-requires : goal.network_in-net-requires
network_in-net-requires c = fits-room _ c.requires

pub places_in-places-requires : goal.places_in-places-requires
places_in-places-requires c = fits-room _ c.requires

pub room_of-requires : goal.room_of-requires
room_of-requires c =
    let lentBook : Book = book_of c.args.s.now in
    (search rules, rw c.network_in-net.ensures (network_few lentBook.network (fits-sound _ c.requires).network))

pub write_sheet-requires : goal.write_sheet-requires
write_sheet-requires c =
    let lentBook : Book = book_of c.args.s.now in
    let long : places_length ≤ length c.places_in-places.result = search rules in
    let answered : c.judge_in.result ≡ checked lentBook c.args.x.now c.args.m.now (has_room lentBook c.args.sheet.now) = rw (c.has_room-room.ensures, c.room_of.ensures, c.network_in-net.ensures, c.places_in-places.ensures) at c.judge_in.ensures in
    let tests : (a : Answer) → c.judge_in.result ≡ a
    → answer lentBook.network lentBook.places c.args.x.now c.args.m.now (has_room lentBook c.args.sheet.now) ≡ a = λ a e. sym (checked-is lentBook (fits-tested _ c.requires) c.args.x.now c.args.m.now (has_room lentBook c.args.sheet.now)) ∙ sym answered ∙ e in
    let b = lentBook in
    let a = c.args in
    let u = fits-tested _ c.requires in
    let e = tests _ c.in_ok-judge_in.was in
    let r = has_room b a.sheet.now in
    rw (c.network_in-net.ensures, c.places_in-places.ensures)
    (long, solved b u a.x.now a.m.now r e, inverse b u a.x.now a.m.now r e, room-enough b u a.x.now a.m.now a.sheet.now e)

pub returns : goal.returns
returns c =
    let lentBook : Book = book_of c.args.s.now in
    let answered : c.judge_in.result ≡ checked lentBook c.args.x.now c.args.m.now (has_room lentBook c.args.sheet.now) = rw (c.has_room-room.ensures, c.room_of.ensures, c.network_in-net.ensures, c.places_in-places.ensures) at c.judge_in.ensures in
    let tests : (a : Answer) → c.judge_in.result ≡ a
    → answer lentBook.network lentBook.places c.args.x.now c.args.m.now (has_room lentBook c.args.sheet.now) ≡ a = λ a e. sym (checked-is lentBook (fits-tested _ c.requires) c.args.x.now c.args.m.now (has_room lentBook c.args.sheet.now)) ∙ sym answered ∙ e in
    let a = c.args in
    record {
      answer = sym (sym answered ∙ c.in_ok-judge_in.was);
      words = (rw (c.network_in-net.ensures, c.places_in-places.ensures) at c.write_sheet.ensures)
          ∙ after-accepted lentBook (fits-tested _ c.requires) a.x.now a.m.now a.sheet.now (tests _ c.in_ok-judge_in.was);
    }

pub returns-in_err-judge_in : goal.returns-in_err-judge_in
returns-in_err-judge_in c =
    let lentBook : Book = book_of c.args.s.now in
    let answered : c.judge_in.result ≡ checked lentBook c.args.x.now c.args.m.now (has_room lentBook c.args.sheet.now) = rw (c.has_room-room.ensures, c.room_of.ensures, c.network_in-net.ensures, c.places_in-places.ensures) at c.judge_in.ensures in
    let tests : (a : Answer) → c.judge_in.result ≡ a
    → answer lentBook.network lentBook.places c.args.x.now c.args.m.now (has_room lentBook c.args.sheet.now) ≡ a = λ a e. sym (checked-is lentBook (fits-tested _ c.requires) c.args.x.now c.args.m.now (has_room lentBook c.args.sheet.now)) ∙ sym answered ∙ e in
    let a = c.args in
    let e = c.in_err-judge_in.was in
    let p = err_from_is_err_and c.from_residual.result c.from_residual.ensures.1 in
    record { answer = rw (p.1, p.2) (sym (sym answered ∙ e)); words = after-refused lentBook (fits-tested _ c.requires) a.x.now a.m.now a.sheet.now _ (tests _ e) }
