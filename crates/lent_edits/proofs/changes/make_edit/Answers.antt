-- What `put` ensures, with the journal that goes with the edit (`edit_made`). Assumes nothing.
use Prim.Native.Nat.{ℕ, ◌<◌, ◌≤◌}
use mathlib.Core.Path.{sym, ◌∙◌, subst}
use lib.ListN.{length}
use Rattle.book.specs.Journal.{journal_size}
use Rattle.layout.specs.Bytes.{book_of}
use Rattle.layout.specs.CodecLaws.{fits-room, fits-sound}
use Rattle.layout.specs.Layout.{book_bytes}
use Rattle.lent_edits.proofs.Changed.{edit_made}
use Rattle.lent_edits.proofs.changes.make_edit.Goals as goal

pub record_in-requires : goal.record_in-requires
record_in-requires c =
    let room : book_bytes ≤ length c.args.s.now = fits-room c.args.s.now c.requires.0 in
    room

pub next_in-next-requires : goal.next_in-next-requires
next_in-next-requires c =
    let room : book_bytes ≤ length c.args.s.now = fits-room c.args.s.now c.requires.0 in
    room

pub slot_after-requires : goal.slot_after-requires
slot_after-requires c =
    let small : c.next_in-next.result < journal_size = subst (λ (k : ℕ). k < journal_size) (sym c.next_in-next.ensures) (fits-sound c.args.s.now c.requires.0).journal.next in
    small

pub journal_count_in-requires : goal.journal_count_in-requires
journal_count_in-requires c =
    let room : book_bytes ≤ length c.args.s.now = fits-room c.args.s.now c.requires.0 in
    room

pub put-requires : goal.put-requires
put-requires c =
    let small : c.next_in-next.result < journal_size = subst (λ (k : ℕ). k < journal_size) (sym c.next_in-next.ensures) (fits-sound c.args.s.now c.requires.0).journal.next in
    (c.requires.0, c.requires.1, c.requires.2.inside, c.requires.2.fits, small)

pub returns : goal.returns
returns c =
    c.put.ensures
    ∙ edit_made c.args.s.now (book_of c.args.s.now) c.args.i _ _ _ _ c.args.r _ c.record_in.ensures c.next_in-next.ensures c.journal_count_in.ensures c.slot_after.ensures c.one_more.ensures
