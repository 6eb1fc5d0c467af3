-- 25 before all others, and else what `write_file` answers and leaves. Assumes nothing.
use mathlib.Core.Path.{sym, ◌∙◌}
use mir.Syntax.{w64}
use mir.Facts.{to_z-of_z}
use Rattle.layout.specs.CodecLaws.{fits-room}
use Rattle.dombrelat.specs.FileCallLaws.{length-small}
use Rattle.dombrelat.proofs.Filings.{write_unfit, write_fit}
use borrow.Author.Rules.{sfits_of}
use Rattle.dombrelat.proofs.filing.dombrelat_write_file.Goals as goal

pub returns-then-not-holds_book : goal.returns-then-not-holds_book
returns-then-not-holds_book c =
    record {
      value = (write_unfit _ _ (sym c.holds_book.ensures ∙ c.if-not-holds_book.true)).0;
      file_after = (write_unfit _ _ (sym c.holds_book.ensures ∙ c.if-not-holds_book.true)).1;
    }

pub write_file-w-requires : goal.write_file-w-requires
write_file-w-requires c = fits-room _ (sym c.holds_book.ensures ∙ c.if-not-holds_book.false)

pub written_word-requires : goal.written_word-requires
written_word-requires c = rw c.write_file-w.ensures.0 (length-small _ _)

pub returns : goal.returns
returns c =
    let w = c.written_word in
    record {
      value = (write_fit _ _ (sym c.holds_book.ensures ∙ c.if-not-holds_book.false) c.write_file-w.ensures.0 (to_z-of_z {w = w64} {z = w.result} (sfits_of w.type_inv) ∙ w.ensures) c.write_file-w.ensures.1).0;
      file_after = (write_fit _ _ (sym c.holds_book.ensures ∙ c.if-not-holds_book.false) c.write_file-w.ensures.0 (to_z-of_z {w = w64} {z = w.result} (sfits_of w.type_inv) ∙ w.ensures) c.write_file-w.ensures.1).1;
    }
