-- `restore` takes the latest edit off the journal, and puts back what its place held. Assumes nothing.
use Prim.Native.Nat.{ℕ, ◌<◌, ◌≤◌}
use mathlib.Core.Path.{◌≡◌, sym, ap, ◌∙◌, subst}
use mathlib.Core.Bool.{true}
use native.Mathlib.Omega.{arith}
use lib.ListN.{length, get_or}
use Rattle.network.specs.Rules.{record_fits}
use Rattle.book.specs.declared.Reversal.{Reversal}
use Rattle.book.specs.Journal.{journal_size, slot_before, free, latest}
use Rattle.book.specs.SoundLaws.{latest-undoes}
use Rattle.layout.specs.Bytes.{book_of}
use Rattle.layout.specs.CodecLaws.{fits-room, fits-sound}
use Rattle.layout.specs.Layout.{book_bytes}
use Rattle.lent_edits.proofs.Changed.{restored}
use Rattle.lent_edits.proofs.changes.restore.Goals as goal

pub next_in-requires : goal.next_in-requires
next_in-requires c =
    let room : book_bytes ≤ length c.args.s.now = fits-room c.args.s.now c.requires.0 in
    room

pub slot_before-slot-requires : goal.slot_before-slot-requires
slot_before-slot-requires c =
    let small : c.next_in.result < journal_size = subst (λ (k : ℕ). k < journal_size) (sym c.next_in.ensures) (fits-sound c.args.s.now c.requires.0).journal.next in
    small

pub slot_in-last-requires : goal.slot_in-last-requires
slot_in-last-requires c =
    let room : book_bytes ≤ length c.args.s.now = fits-room c.args.s.now c.requires.0 in
    let inside : c.slot_before-slot.result < journal_size = let e = c.slot_before-slot.ensures in omega arith in
    (room, inside)

pub network_in-net-requires : goal.network_in-net-requires
network_in-net-requires c =
    let room : book_bytes ≤ length c.args.s.now = fits-room c.args.s.now c.requires.0 in
    room

pub put-requires : goal.put-requires
put-requires c =
    let inside : c.slot_before-slot.result < journal_size = let e = c.slot_before-slot.ensures in omega arith in
    let t = c.args.s.now in
    let b = book_of t in
    let last : c.slot_in-last.result ≡ latest b.journal =
    c.slot_in-last.ensures ∙ ap (λ (k : ℕ). get_or b.journal.entries k free) (c.slot_before-slot.ensures ∙ ap slot_before c.next_in.ensures) in
    let m = latest-undoes b (fits-sound t c.requires.0) (subst (λ (k : ℕ). 0 < k) c.requires.1 c.requires.2) in
    let w = subst (λ (x : Reversal). (x.place < 256) × (record_fits b.network x.prior ≡ true)) (sym last) (m.inside, m.fits) in
    (c.requires.0, c.network_in-net.ensures, w.0, w.1, inside)

pub returns : goal.returns
returns c =
    c.put.ensures
    ∙ restored c.args.s.now (book_of c.args.s.now) _ _ c.args.count _ c.next_in.ensures c.slot_before-slot.ensures c.requires.1 c.slot_in-last.ensures
