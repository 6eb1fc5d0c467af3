-- Bytes that hold no book are answered with 25; else the answer is that of the book that they hold, as the call's word. Assumes nothing.
use mathlib.Core.Path.{◌≡◌, sym, ◌∙◌}
use mathlib.Core.Bool.{true}
use mir.Syntax.{w64}
use mir.Facts.{to_z-of_z}
use Rattle.layout.specs.Bytes.{bytes_fit}
use Rattle.dombrelat.proofs.Answers.{sheet_unfit, sheet_fit}
use borrow.Author.Rules.{sfits_of}
use Rattle.dombrelat.proofs.checking.dombrelat_check_sheet.Goals as goal

pub returns-then-not-holds_book : goal.returns-then-not-holds_book
returns-then-not-holds_book c =
    record {
      value = (sheet_unfit _ _ _ _ (sym c.holds_book.ensures ∙ c.if-not-holds_book.true)).0;
      out_after = (sheet_unfit _ _ _ _ (sym c.holds_book.ensures ∙ c.if-not-holds_book.true)).1;
    }

pub check_sheet_lent-a-requires : goal.check_sheet_lent-a-requires
check_sheet_lent-a-requires c =
    let fit : bytes_fit c.args.book.now ≡ true = sym c.holds_book.ensures ∙ c.if-not-holds_book.false in
    fit

pub returns : goal.returns
returns c =
    let fit : bytes_fit c.args.book.now ≡ true = sym c.holds_book.ensures ∙ c.if-not-holds_book.false in
    let p = c.check_sheet_lent-a in
    let e = sheet_fit _ _ _ _ _ _ fit p.ensures.value.0 p.ensures.out_after in
    record { value = to_z-of_z {w = w64} {z = c.answer_word.result} (sfits_of c.answer_word.type_inv) ∙ c.answer_word.ensures ∙ e.0; out_after = e.1 }
