-- The bytes that the book writes hold it, so the answer and the sheet on them are those on the book.
use mathlib.Core.Path.{ap, ◌∙◌}
use Rattle.book.specs.declared.Book.{Book}
use Rattle.checks.specs.Checks.{checked, has_room, sheet_after}
use Rattle.checks.proofs.check_sheet.Goals as goal

pub check_sheet_in-requires : goal.check_sheet_in-requires
check_sheet_in-requires c = c.book_bytes-s.ensures.0

pub returns : goal.returns
returns c =
    let a = c.args in
    let e = c.book_bytes-s.ensures.1 in record { answer = c.check_sheet_in.ensures.answer ∙ ap (λ (b : Book). checked b a.x.now a.m.now (has_room b a.sheet.now)) e; words = c.check_sheet_in.ensures.words ∙ ap (λ (b : Book). sheet_after b a.x.now a.m.now a.sheet.now) e }
