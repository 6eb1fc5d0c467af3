-- Bytes that hold no book are answered with 25; else there are at most 32 stations (`few`), so their words are inside those read (`stations-fit`). Assumes nothing.
use Prim.Native.Nat.{◌≤◌}
use native.Mathlib.Omega.{arith}
use mathlib.Core.Path.{◌≡◌, refl, sym, ◌∙◌}
use mathlib.Core.Bool.{true}
use mir.Syntax.{w64}
use mir.Facts.{to_z-of_z}
use Rattle.layout.specs.Bytes.{bytes_fit}
use Rattle.layout.specs.CodecLaws.{fits-room, fits-network}
use Rattle.dombrelat.proofs.Readings.{both, stations_unfit, stations-fit}
use borrow.Author.Rules.{sfits_of}
use Rattle.dombrelat.proofs.reading.dombrelat_stations.Goals as goal

pub returns-then-not-holds_book : goal.returns-then-not-holds_book
returns-then-not-holds_book c =
    record {
      value = (both _ _ _ _ (stations_unfit _ _ (sym c.holds_book.ensures ∙ c.if-not-holds_book.true)) (refl, refl)).0;
      list_after = (both _ _ _ _ (stations_unfit _ _ (sym c.holds_book.ensures ∙ c.if-not-holds_book.true)) (refl, refl)).1;
    }

pub network_in-net-requires : goal.network_in-net-requires
network_in-net-requires c =
    let fit : bytes_fit c.args.book.now ≡ true = sym c.holds_book.ensures ∙ c.if-not-holds_book.false in
    fits-room _ fit

pub stations_at-w-requires : goal.stations_at-w-requires
stations_at-w-requires c =
    let fit : bytes_fit c.args.book.now ≡ true = sym c.holds_book.ensures ∙ c.if-not-holds_book.false in
    fits-room _ fit

pub overflow_mul-e : goal.overflow_mul-e
overflow_mul-e c =
    let fit : bytes_fit c.args.book.now ≡ true = sym c.holds_book.ensures ∙ c.if-not-holds_book.false in
    let few : c.network_in-net.result.count ≤ 32 = (fits-network _ fit _ c.network_in-net.ensures).0 in
    omega (arith, few)

pub slice_bounds-give-end : goal.slice_bounds-give-end
slice_bounds-give-end c =
    let fit : bytes_fit c.args.book.now ≡ true = sym c.holds_book.ensures ∙ c.if-not-holds_book.false in
    let few : c.network_in-net.result.count ≤ 32 = (fits-network _ fit _ c.network_in-net.ensures).0 in
    omega (arith, few)

pub give-requires : goal.give-requires
give-requires c =
    let fit : bytes_fit c.args.book.now ≡ true = sym c.holds_book.ensures ∙ c.if-not-holds_book.false in
    let few : c.network_in-net.result.count ≤ 32 = (fits-network _ fit _ c.network_in-net.ensures).0 in
    omega (arith, few)

pub returns : goal.returns
returns c =
    let fit : bytes_fit c.args.book.now ≡ true = sym c.holds_book.ensures ∙ c.if-not-holds_book.false in
    let g = c.give in
    record {
      value = (both _ _ _ _ (stations-fit _ _ _ _ fit c.network_in-net.ensures c.stations_at-w.ensures) (to_z-of_z {w = w64} {z = g.result} (sfits_of g.type_inv) ∙ g.ensures.0, g.ensures.1)).0;
      list_after = (both _ _ _ _ (stations-fit _ _ _ _ fit c.network_in-net.ensures c.stations_at-w.ensures) (to_z-of_z {w = w64} {z = g.result} (sfits_of g.type_inv) ∙ g.ensures.0, g.ensures.1)).1;
    }
