-- Bytes that hold no book are answered with 25; else the room of the book's sheet is small enough for the number. Assumes nothing.
use Prim.Native.Nat.{◌≤◌}
use native.Mathlib.Omega.{arith}
use mathlib.Core.Path.{◌≡◌, sym, ◌∙◌}
use mathlib.Core.Bool.{true}
use mir.Syntax.{w64}
use mir.Facts.{to_z-of_z}
use Rattle.network.specs.RuleLaws.{network_few}
use Rattle.layout.specs.Bytes.{book_of, bytes_fit}
use Rattle.layout.specs.CodecLaws.{fits-sound}
use Rattle.sheet.specs.Totals.{room_small}
use Rattle.dombrelat.proofs.Readings.{sheet_bytes_unfit, sheet_bytes_fit}
use borrow.Author.Rules.{sfits_of}
use Rattle.dombrelat.proofs.reading.dombrelat_sheet_bytes.Goals as goal

pub returns-then-not-holds_book : goal.returns-then-not-holds_book
returns-then-not-holds_book c = sheet_bytes_unfit _ (sym c.holds_book.ensures ∙ c.if-not-holds_book.true)

pub room_in-n-requires : goal.room_in-n-requires
room_in-n-requires c =
    let fit : bytes_fit c.args.book.now ≡ true = sym c.holds_book.ensures ∙ c.if-not-holds_book.false in
    fit

pub overflow_mul-n : goal.overflow_mul-n
overflow_mul-n c =
    let fit : bytes_fit c.args.book.now ≡ true = sym c.holds_book.ensures ∙ c.if-not-holds_book.false in
    let words : c.room_in-n.result ≤ 2021 = let book = c.args.book.now in
    let b = book_of book in
    omega (arith, c.room_in-n.ensures, room_small b.network b.places (network_few b.network (fits-sound book fit).network)) in
    omega (arith, words)

pub numbered_word-requires : goal.numbered_word-requires
numbered_word-requires c =
    let fit : bytes_fit c.args.book.now ≡ true = sym c.holds_book.ensures ∙ c.if-not-holds_book.false in
    let words : c.room_in-n.result ≤ 2021 = let book = c.args.book.now in
    let b = book_of book in
    omega (arith, c.room_in-n.ensures, room_small b.network b.places (network_few b.network (fits-sound book fit).network)) in
    omega (arith, words)

pub returns : goal.returns
returns c =
    let fit : bytes_fit c.args.book.now ≡ true = sym c.holds_book.ensures ∙ c.if-not-holds_book.false in
    let n = c.numbered_word in
    to_z-of_z {w = w64} {z = n.result} (sfits_of n.type_inv) ∙ n.ensures
    ∙ sheet_bytes_fit _ _ fit c.room_in-n.ensures
