-- 10 exactly where the lengths are not those of the book's unknowns; else what is offered is that of the words. Assumes nothing.
use Prim.Native.Nat.{◌≤◌}
use mathlib.Core.Path.{◌≡◌, sym, ap, ◌∙◌}
use mathlib.Core.Bool.{true}
use native.Mathlib.Omega.{arith}
use Rattle.network.specs.Stations.{unknown_count}
use Rattle.network.specs.RuleLaws.{sound-stations}
use Rattle.layout.specs.Bytes.{book_of}
use Rattle.layout.specs.CodecLaws.{fits-room, fits-sound}
use Rattle.lent_checks.specs.Offers.{lent_lengths}
use Rattle.lent_checks.proofs.Offered.{offers_none, offers_some}
use Rattle.lent_checks.proofs.proposing.propose_lent.Goals as goal

pub network_in-net-requires : goal.network_in-net-requires
network_in-net-requires c = fits-room _ c.requires

pub lengths_fit-requires : goal.lengths_fit-requires
lengths_fit-requires c =
    let is : c.number_of-n.result ≡ unknown_count (book_of c.args.book.now).network.stations = c.number_of-n.ensures ∙ ap (λ (k : Rattle.network.specs.declared.Network.Network). unknown_count k.stations) c.network_in-net.ensures in
    let few : c.number_of-n.result ≤ 48 = let book = c.args.book.now in
    omega (arith, is, (sound-stations (book_of book).network (fits-sound book c.requires).network).few) in
    few

pub returns-then-not-lengths_fit : goal.returns-then-not-lengths_fit
returns-then-not-lengths_fit c =
    let is : c.number_of-n.result ≡ unknown_count (book_of c.args.book.now).network.stations = c.number_of-n.ensures ∙ ap (λ (k : Rattle.network.specs.declared.Network.Network). unknown_count k.stations) c.network_in-net.ensures in
    offers_none _ _ _ _ is (sym c.lengths_fit.ensures ∙ c.if-not-lengths_fit.true)

pub propose_words-requires : goal.propose_words-requires
propose_words-requires c =
    let is : c.number_of-n.result ≡ unknown_count (book_of c.args.book.now).network.stations = c.number_of-n.ensures ∙ ap (λ (k : Rattle.network.specs.declared.Network.Network). unknown_count k.stations) c.network_in-net.ensures in
    let few : c.number_of-n.result ≤ 48 = let book = c.args.book.now in
    omega (arith, is, (sound-stations (book_of book).network (fits-sound book c.requires).network).few) in
    let fit : lent_lengths c.number_of-n.result c.args.x.now c.args.m.now ≡ true = sym c.lengths_fit.ensures ∙ c.if-not-lengths_fit.false in
    (c.requires, few, fit)

pub returns : goal.returns
returns c =
    let is : c.number_of-n.result ≡ unknown_count (book_of c.args.book.now).network.stations = c.number_of-n.ensures ∙ ap (λ (k : Rattle.network.specs.declared.Network.Network). unknown_count k.stations) c.network_in-net.ensures in
    let fit : lent_lengths c.number_of-n.result c.args.x.now c.args.m.now ≡ true = sym c.lengths_fit.ensures ∙ c.if-not-lengths_fit.false in
    offers_some _ _ _ (book_of c.args.book.now) is _ _ _ fit c.propose_words.ensures
