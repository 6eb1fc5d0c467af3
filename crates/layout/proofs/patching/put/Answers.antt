-- `put` changes a book in place. Assumes nothing.
use mathlib.Core.Path.{◌≡◌}
use native.Mathlib.Omega.{arith}
use Prim.Native.Nat.{◌≤◌}
use lib.ListN.{length}
use Rattle.integers.specs.Tables.{length-tabulate}
use Rattle.book.specs.Book.{with_record}
use Rattle.layout.specs.Bytes.{book_of}
use Rattle.layout.specs.CodecLaws.{read_sized, fits-room}
use Rattle.layout.specs.BookPatches.{put_edit}
use Rattle.layout.specs.Layout.{book_bytes}
use Rattle.layout.proofs.patching.put.Goals as goal

pub put_record-requires : goal.put_record-requires
put_record-requires c =
    let room : book_bytes ≤ length c.args.s.now = fits-room c.args.s.now c.requires.0 in
    let k : length c.exchange.new.s ≡ length c.args.s.now = c.exchange.auto.s in
    let h = room in
    let i = c.requires.2 in
    (omega arith, omega arith)

pub put_reversal-requires : goal.put_reversal-requires
put_reversal-requires c =
    let room : book_bytes ≤ length c.args.s.now = fits-room c.args.s.now c.requires.0 in
    let k : length c.exchange.new.s ≡ length c.args.s.now = c.exchange.auto.s in
    let l : length c.put_record.new.s ≡ length c.exchange.new.s = c.put_record.auto.s in
    let h = room in
    let i = c.requires.4 in
    (omega arith, omega arith)

pub put_counts-requires : goal.put_counts-requires
put_counts-requires c =
    let room : book_bytes ≤ length c.args.s.now = fits-room c.args.s.now c.requires.0 in
    let k : length c.exchange.new.s ≡ length c.args.s.now = c.exchange.auto.s in
    let l : length c.put_record.new.s ≡ length c.exchange.new.s = c.put_record.auto.s in
    let m : length c.put_reversal.new.s ≡ length c.put_record.new.s = c.put_reversal.auto.s in
    let h = room in
    omega arith

pub returns : goal.returns
returns c =
    let room : book_bytes ≤ length c.args.s.now = fits-room c.args.s.now c.requires.0 in
    let t = c.args.s.now in
    let b = book_of t in
    let x = with_record b c.args.i c.args.r in
    put_edit t room b (read_sized t) x.matrix x.right (length-tabulate 2304 _) (length-tabulate 48 _) c.args.i c.args.r c.args.change.slot c.args.change.holds c.args.change.next c.args.change.count c.requires.2 c.requires.4
    _ _ _ _ c.exchange.ensures c.put_record.ensures c.put_reversal.ensures c.put_counts.ensures
