-- Bytes that hold no book are answered with 25; else the unknowns are few (`number_small`), so their number fits the word (`unknowns_fit_lem`). Assumes nothing.
use native.Mathlib.Omega.{arith}
use mathlib.Core.Path.{◌≡◌, sym, ◌∙◌}
use mathlib.Core.Bool.{true}
use mir.Syntax.{w64}
use mir.Facts.{to_z-of_z}
use Rattle.layout.specs.Bytes.{bytes_fit}
use Rattle.layout.specs.CodecLaws.{fits-room}
use Rattle.network.specs.StationLaws.{number_small}
use Rattle.dombrelat.proofs.Readings.{unknowns_unfit, unknowns_fit_lem}
use borrow.Author.Rules.{sfits_of}
use Rattle.dombrelat.proofs.reading.dombrelat_unknowns.Goals as goal

pub returns-then-not-holds_book : goal.returns-then-not-holds_book
returns-then-not-holds_book c = unknowns_unfit _ (sym c.holds_book.ensures ∙ c.if-not-holds_book.true)

pub network_in-net-requires : goal.network_in-net-requires
network_in-net-requires c =
    let fit : bytes_fit c.args.book.now ≡ true = sym c.holds_book.ensures ∙ c.if-not-holds_book.false in
    fits-room _ fit

pub numbered_word-requires : goal.numbered_word-requires
numbered_word-requires c = omega (arith, c.number_of-n.ensures, number_small c.network_in-net.result.stations 96)

pub returns : goal.returns
returns c =
    let fit : bytes_fit c.args.book.now ≡ true = sym c.holds_book.ensures ∙ c.if-not-holds_book.false in
    let n = c.numbered_word in
    to_z-of_z {w = w64} {z = n.result} (sfits_of n.type_inv) ∙ n.ensures
    ∙ unknowns_fit_lem _ _ _ fit c.network_in-net.ensures c.number_of-n.ensures
