-- Bytes that hold no book are answered with 25; else the answer is that of the book that they hold, as the call's word. Assumes nothing.
use mir.Syntax.{w64}
use mir.Facts.{to_z-of_z}
use mathlib.Core.Path.{◌≡◌, sym, ap, ◌∙◌}
use mathlib.Core.Bool.{true}
use Rattle.lists.specs.Stored.{stored}
use Rattle.distances.specs.declared.CheckDistance.{CheckDistance}
use Rattle.layout.specs.Bytes.{bytes_fit}
use Rattle.dombrelat.specs.CheckCalls.{distance_of, distance_call}
use Rattle.dombrelat.proofs.Answers.{distance_unfit, distance_fit}
use borrow.Author.Rules.{sfits_of}
use Rattle.dombrelat.proofs.checking.dombrelat_check_distance.Goals as goal

pub returns-then-not-holds_book : goal.returns-then-not-holds_book
returns-then-not-holds_book c = distance_unfit _ _ _ _ (sym c.holds_book.ensures ∙ c.if-not-holds_book.true)

pub check_distance_lent-a-requires : goal.check_distance_lent-a-requires
check_distance_lent-a-requires c =
    let fit : bytes_fit c.args.book.now ≡ true = sym c.holds_book.ensures ∙ c.if-not-holds_book.false in
    fit

pub returns : goal.returns
returns c =
    let fit : bytes_fit c.args.book.now ≡ true = sym c.holds_book.ensures ∙ c.if-not-holds_book.false in
    let distance_is : distance_of (stored c.args.from) (stored c.args.to) (stored c.args.distance) (stored c.args.instrument) (stored c.args.target) (stored c.args.tolerance)
    ≡ distance_of c.args.from c.args.to c.args.distance c.args.instrument c.args.target c.args.tolerance = let f = c.ranges in
    λ i. distance_of (to_z-of_z {w = w64} f.from i) (to_z-of_z {w = w64} f.to i) (to_z-of_z {w = w64} f.distance i) (to_z-of_z {w = w64} f.instrument i) (to_z-of_z {w = w64} f.target i) (to_z-of_z {w = w64} f.tolerance i) in
    to_z-of_z {w = w64} {z = c.agreement_word.result} (sfits_of c.agreement_word.type_inv)
    ∙ c.agreement_word.ensures
    ∙ distance_fit _ _ _ _ _ fit c.check_distance_lent-a.ensures.0
    ∙ ap (λ (d : CheckDistance). distance_call c.args.book.now c.args.x.now c.args.m.now d) distance_is
