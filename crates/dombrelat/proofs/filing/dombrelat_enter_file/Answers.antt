-- 25 before all others, and else what `enter_file` answers and leaves. Assumes nothing.
use mathlib.Core.Path.{sym, ◌∙◌}
use mir.Syntax.{w64}
use mir.Facts.{to_z-of_z}
use Rattle.dombrelat.proofs.Filings.{enter_unfit, enter_fit}
use borrow.Author.Rules.{sfits_of}
use Rattle.dombrelat.proofs.filing.dombrelat_enter_file.Goals as goal

pub returns-then-not-holds_book : goal.returns-then-not-holds_book
returns-then-not-holds_book c =
    record {
      value = (enter_unfit _ _ _ (sym c.holds_book.ensures ∙ c.if-not-holds_book.true)).0;
      book_after = (enter_unfit _ _ _ (sym c.holds_book.ensures ∙ c.if-not-holds_book.true)).1.0;
      answers_after = (enter_unfit _ _ _ (sym c.holds_book.ensures ∙ c.if-not-holds_book.true)).1.1;
    }

pub enter_file-e-requires : goal.enter_file-e-requires
enter_file-e-requires c = sym c.holds_book.ensures ∙ c.if-not-holds_book.false

pub returns : goal.returns
returns c =
    let w = c.entered_word in
    record {
      value = (enter_fit _ _ _ (sym c.holds_book.ensures ∙ c.if-not-holds_book.false) c.enter_file-e.ensures.0 (to_z-of_z {w = w64} {z = w.result} (sfits_of w.type_inv) ∙ w.ensures) c.enter_file-e.ensures.1 c.enter_file-e.ensures.2).0;
      book_after = (enter_fit _ _ _ (sym c.holds_book.ensures ∙ c.if-not-holds_book.false) c.enter_file-e.ensures.0 (to_z-of_z {w = w64} {z = w.result} (sfits_of w.type_inv) ∙ w.ensures) c.enter_file-e.ensures.1 c.enter_file-e.ensures.2).1.0;
      answers_after = (enter_fit _ _ _ (sym c.holds_book.ensures ∙ c.if-not-holds_book.false) c.enter_file-e.ensures.0 (to_z-of_z {w = w64} {z = w.result} (sfits_of w.type_inv) ∙ w.ensures) c.enter_file-e.ensures.1 c.enter_file-e.ensures.2).1.1;
    }
