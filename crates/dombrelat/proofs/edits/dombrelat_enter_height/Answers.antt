-- `dombrelat_enter_height` makes the call that enters a height difference. Assumes nothing.
use mathlib.Core.Path.{◌≡◌, ◌∙◌}
use mir.Syntax.{w64}
use mir.Facts.{to_z-of_z}
use Rattle.book.specs.declared.Change.TheVariants.{Enter}
use Rattle.book.specs.declared.Call.TheVariants.{Edit}
use Rattle.network.specs.Records.{height_of}
use Rattle.dombrelat.proofs.Lent.{answers_as}
use borrow.Author.Rules.{sfits_of}
use Rattle.dombrelat.proofs.edits.dombrelat_enter_height.Goals as goal

pub returns : goal.returns
returns c =
    let p = c.edit_bytes in
    let r = c.height_of-r in
    let made : r.result ≡ height_of c.args.from c.args.to c.args.up c.args.weight = r.ensures ∙ (λ i. height_of (to_z-of_z {w = w64} c.ranges.from i) (to_z-of_z {w = w64} c.ranges.to i) (to_z-of_z {w = w64} c.ranges.up i) (to_z-of_z {w = w64} c.ranges.weight i)) in
    let w = answers_as c.args.book.now _ _ (λ i. Edit (to_z-of_z {w = w64} c.ranges.place i) (Enter (made i))) _ _ p.ensures in
    record { value = to_z-of_z {w = w64} {z = p.result} (sfits_of p.type_inv) ∙ w.0; book_after = w.1 }
