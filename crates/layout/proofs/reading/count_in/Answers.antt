-- `count_in` reads one word as a count. Assumes nothing.
use mathlib.Core.Path.{ap, ◌∙◌}
use mir.Syntax.{w64}
use mir.Facts.{to_z-of_z}
use Rattle.words.specs.Signed.{unsigned}
use borrow.Author.Rules.{sfits_of}
use Rattle.layout.proofs.reading.count_in.Goals as goal

pub returns : goal.returns
returns c =
    let w = c.word_in in
    c.to_unsigned.ensures ∙ ap unsigned (to_z-of_z {w = w64} {z = w.result} (sfits_of w.type_inv) ∙ w.ensures)
