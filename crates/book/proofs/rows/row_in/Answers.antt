-- Number and place are read back from their bits; equal parts make the same row (`same_row`). Assumes nothing.
use mathlib.Core.Path.{ap, ◌∙◌}
use mir.Syntax.{w64}
use mir.Facts.{to_z-of_z}
use lib.IntN.{ℤ}
use Rattle.words.specs.Signed.{index_in}
use Rattle.book.specs.Rows.{row_calls}
use Rattle.book.proofs.RowCases.{same_row}
use borrow.Author.Rules.{sfits_of}
use Rattle.book.proofs.rows.row_in.Goals as goal

pub returns : goal.returns
returns c =
    c.row_of.ensures
    ∙ same_row _ _ _ _ _ _ (c.index_in-kind.ensures ∙ ap (λ (z : ℤ). index_in z row_calls) (to_z-of_z {w = w64} (sfits_of c.word-1.given))) (to_z-of_z {w = w64} (sfits_of c.place-1.given)) c.record_in-entry.ensures
