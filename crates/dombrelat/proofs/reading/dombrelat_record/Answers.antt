-- By the two tests: no book (`record_unfit`), no such place (`record_beyond`); else the words of the record there, as `give` ensures (`record_fit`). Assumes nothing.
use mathlib.Core.Path.{◌≡◌, refl, sym, ap, ◌∙◌}
use mathlib.Core.Bool.{true}
use mir.Syntax.{w64}
use mir.Facts.{to_z-of_z}
use Rattle.layout.specs.Bytes.{bytes_fit}
use Rattle.layout.specs.CodecLaws.{fits-room}
use lib.IntN.{ℤ}
use Rattle.words.specs.Signed.{index_in}
use Rattle.dombrelat.proofs.Readings.{both, record_unfit, record_beyond, record_fit}
use borrow.Author.Rules.{sfits_of}
use Rattle.dombrelat.proofs.reading.dombrelat_record.Goals as goal

pub returns-then-not-holds_book : goal.returns-then-not-holds_book
returns-then-not-holds_book c =
    record {
      value = (both _ _ _ _ (record_unfit _ _ _ (sym c.holds_book.ensures ∙ c.if-not-holds_book.true)) (refl, refl)).0;
      out_after = (both _ _ _ _ (record_unfit _ _ _ (sym c.holds_book.ensures ∙ c.if-not-holds_book.true)) (refl, refl)).1;
    }

pub returns-then-i-ge-PLACES : goal.returns-then-i-ge-PLACES
returns-then-i-ge-PLACES c =
    let fit : bytes_fit c.args.book.now ≡ true = sym c.holds_book.ensures ∙ c.if-not-holds_book.false in
    let at_place : c.index_in-i.result ≡ index_in c.args.place 256 = c.index_in-i.ensures ∙ ap (λ (z : ℤ). index_in z 256) (to_z-of_z {w = w64} c.ranges.place) in
    record {
      value = (both _ _ _ _ (record_beyond _ _ _ _ fit at_place c.if-i-ge-PLACES.true) (refl, refl)).0;
      out_after = (both _ _ _ _ (record_beyond _ _ _ _ fit at_place c.if-i-ge-PLACES.true) (refl, refl)).1;
    }

pub record_in-r-requires : goal.record_in-r-requires
record_in-r-requires c =
    let fit : bytes_fit c.args.book.now ≡ true = sym c.holds_book.ensures ∙ c.if-not-holds_book.false in
    fits-room _ fit

pub returns : goal.returns
returns c =
    let fit : bytes_fit c.args.book.now ≡ true = sym c.holds_book.ensures ∙ c.if-not-holds_book.false in
    let at_place : c.index_in-i.result ≡ index_in c.args.place 256 = c.index_in-i.ensures ∙ ap (λ (z : ℤ). index_in z 256) (to_z-of_z {w = w64} c.ranges.place) in
    let g = c.give in
    record {
      value = (both _ _ _ _ (record_fit _ _ _ _ _ _ fit at_place c.if-i-ge-PLACES.false c.record_in-r.ensures c.record_words-w.ensures) (to_z-of_z {w = w64} {z = g.result} (sfits_of g.type_inv) ∙ g.ensures.0, g.ensures.1)).0;
      out_after = (both _ _ _ _ (record_fit _ _ _ _ _ _ fit at_place c.if-i-ge-PLACES.false c.record_in-r.ensures c.record_words-w.ensures) (to_z-of_z {w = w64} {z = g.result} (sfits_of g.type_inv) ∙ g.ensures.0, g.ensures.1)).1;
    }
