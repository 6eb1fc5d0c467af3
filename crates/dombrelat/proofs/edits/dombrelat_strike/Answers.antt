-- `dombrelat_strike` makes the call that strikes. Assumes nothing.
use mathlib.Core.Path.{◌∙◌}
use mir.Syntax.{w64}
use mir.Facts.{to_z-of_z}
use Rattle.book.specs.declared.Change.TheVariants.{Strike}
use Rattle.book.specs.declared.Call.TheVariants.{Edit}
use Rattle.dombrelat.proofs.Lent.{answers_as}
use borrow.Author.Rules.{sfits_of}
use Rattle.dombrelat.proofs.edits.dombrelat_strike.Goals as goal

pub returns : goal.returns
returns c =
    let p = c.edit_bytes in
    let w = answers_as c.args.book.now _ _ (λ i. Edit (to_z-of_z {w = w64} c.ranges.place i) Strike) _ _ p.ensures in
    record { value = to_z-of_z {w = w64} {z = p.result} (sfits_of p.type_inv) ∙ w.0; book_after = w.1 }
