-- Bytes that hold no book are answered with 25; else the answer is that of the book that they hold, as the call's word. Assumes nothing.
use mir.Syntax.{w64}
use mir.Facts.{to_z-of_z}
use mathlib.Core.Path.{◌≡◌, sym, ◌∙◌}
use mathlib.Core.Bool.{true}
use Rattle.layout.specs.Bytes.{bytes_fit}
use Rattle.dombrelat.proofs.Answers.{check_unfit, check_fit}
use borrow.Author.Rules.{sfits_of}
use Rattle.dombrelat.proofs.checking.dombrelat_check.Goals as goal

pub returns-then-not-holds_book : goal.returns-then-not-holds_book
returns-then-not-holds_book c = check_unfit _ _ _ (sym c.holds_book.ensures ∙ c.if-not-holds_book.true)

pub check_lent-a-requires : goal.check_lent-a-requires
check_lent-a-requires c =
    let fit : bytes_fit c.args.book.now ≡ true = sym c.holds_book.ensures ∙ c.if-not-holds_book.false in
    fit

pub returns : goal.returns
returns c =
    let fit : bytes_fit c.args.book.now ≡ true = sym c.holds_book.ensures ∙ c.if-not-holds_book.false in
    to_z-of_z {w = w64} {z = c.answer_word.result} (sfits_of c.answer_word.type_inv)
    ∙ c.answer_word.ensures
    ∙ check_fit _ _ _ _ fit c.check_lent-a.ensures.0
