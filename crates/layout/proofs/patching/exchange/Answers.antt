-- `exchange` takes the share of what the place holds off N and u, and puts that of r on: both on the words of the bytes. Assumes nothing.
use Prim.Native.Nat.{◌≤◌}
use mathlib.Core.Path.{◌≡◌, ap, ◌∙◌}
use native.Mathlib.Omega.{arith}
use lib.Dec.{lit≤}
use lib.ListN.{length}
use lib.IntN.{pos, negsuc}
use Rattle.integers.specs.Tables.{plus}
use Rattle.words.specs.Words.{Bytes}
use Rattle.words.specs.Runs.{put_words}
use Rattle.network.specs.Records.{record_at}
use Rattle.normals.specs.declared.Exchange.{Exchange}
use Rattle.normals.specs.Shares.{equation}
use Rattle.normals.specs.ShareTerms.{share_from}
use Rattle.layout.specs.Bytes.{words_of, book_of}
use Rattle.layout.specs.CodecLaws.{fits-room, fits-sound}
use Rattle.layout.specs.Layout.{matrix_start, book_length, book_bytes}
use Rattle.layout.proofs.Shares.{off_fits, on_fits, first-within, second_within, put_on}
use Rattle.layout.proofs.patching.exchange.Goals as goal

pub record_in-old-requires : goal.record_in-old-requires
record_in-old-requires c =
    let room : book_bytes ≤ length c.args.s.now = fits-room c.args.s.now c.requires.0 in
    room

pub exchange_of-x-requires : goal.exchange_of-x-requires
exchange_of-x-requires c =
    let sound = fits-sound c.args.s.now c.requires.0 in
    (rw c.requires.1 sound.network, rw (c.requires.1, c.record_in-old.ensures) (sound.records c.args.i), rw c.requires.1 c.requires.3)

pub add_share-requires : goal.add_share-requires
add_share-requires c =
    let room : book_bytes ≤ length c.args.s.now = fits-room c.args.s.now c.requires.0 in
    let equations : c.exchange_of-x.result ≡ record { off = equation (book_of c.args.s.now).network.stations (record_at (book_of c.args.s.now).places c.args.i); on = equation (book_of c.args.s.now).network.stations c.args.r } = c.exchange_of-x.ensures
    ∙ (λ i. record { off = equation (c.requires.1 i).stations (c.record_in-old.ensures i); on = equation (c.requires.1 i).stations c.args.r }) in
    let t = c.args.s.now in
    (room, rw equations (off_fits t c.requires.0 c.args.i c.args.r c.requires.2 c.requires.3), lit≤ tt, first-within t c.requires.0 c.args.i c.args.r c.requires.2 c.requires.3)

pub add_share-requires-2 : goal.add_share-requires-2
add_share-requires-2 c =
    let room : book_bytes ≤ length c.args.s.now = fits-room c.args.s.now c.requires.0 in
    let equations : c.exchange_of-x.result ≡ record { off = equation (book_of c.args.s.now).network.stations (record_at (book_of c.args.s.now).places c.args.i); on = equation (book_of c.args.s.now).network.stations c.args.r } = c.exchange_of-x.ensures
    ∙ (λ i. record { off = equation (c.requires.1 i).stations (c.record_in-old.ensures i); on = equation (c.requires.1 i).stations c.args.r }) in
    let taken_off : c.add_share.new.s ≡ put_words c.args.s.now 0 (plus book_length (words_of c.args.s.now) (negsuc 0) (share_from matrix_start (equation (book_of c.args.s.now).network.stations (record_at (book_of c.args.s.now).places c.args.i)))) = let t = c.args.s.now in
    c.add_share.ensures ∙ ap (λ (x : Exchange). put_words t 0 (plus book_length (words_of t) (negsuc 0) (share_from matrix_start x.off))) equations in
    let bytes : Bytes c.args.s.now = λ i. let h = c.slice_known-1.given i in omega arith in
    let t = c.args.s.now in
    let h = room in
    let k : length c.add_share.new.s ≡ length t = c.add_share.auto.s in
    (omega arith, rw equations (on_fits t c.requires.0 c.args.i c.args.r c.requires.2 c.requires.3), lit≤ tt, second_within t c.requires.0 c.args.i c.args.r c.requires.2 c.requires.3 bytes _ taken_off)

pub returns : goal.returns
returns c =
    let equations : c.exchange_of-x.result ≡ record { off = equation (book_of c.args.s.now).network.stations (record_at (book_of c.args.s.now).places c.args.i); on = equation (book_of c.args.s.now).network.stations c.args.r } = c.exchange_of-x.ensures
    ∙ (λ i. record { off = equation (c.requires.1 i).stations (c.record_in-old.ensures i); on = equation (c.requires.1 i).stations c.args.r }) in
    let taken_off : c.add_share.new.s ≡ put_words c.args.s.now 0 (plus book_length (words_of c.args.s.now) (negsuc 0) (share_from matrix_start (equation (book_of c.args.s.now).network.stations (record_at (book_of c.args.s.now).places c.args.i)))) = let t = c.args.s.now in
    c.add_share.ensures ∙ ap (λ (x : Exchange). put_words t 0 (plus book_length (words_of t) (negsuc 0) (share_from matrix_start x.off))) equations in
    let bytes : Bytes c.args.s.now = λ i. let h = c.slice_known-1.given i in omega arith in
    let u = c.add_share.new.s in
    put_on c.args.s.now c.requires.0 c.args.i c.args.r c.requires.2 c.requires.3 bytes u taken_off _
    (c.add_share-2.ensures ∙ ap (λ (y : Exchange). put_words u 0 (plus book_length (words_of u) (pos 1) (share_from matrix_start y.on))) equations)
