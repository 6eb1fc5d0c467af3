-- `dombrelat_undo` makes the call that undoes. Assumes nothing.
use mathlib.Core.Path.{◌∙◌}
use mir.Syntax.{w64}
use mir.Facts.{to_z-of_z}
use borrow.Author.Rules.{sfits_of}
use Rattle.dombrelat.proofs.edits.dombrelat_undo.Goals as goal

pub returns : goal.returns
returns c =
    let p = c.edit_bytes in
    record { value = to_z-of_z {w = w64} {z = p.result} (sfits_of p.type_inv) ∙ p.ensures.0; book_after = p.ensures.1 }
