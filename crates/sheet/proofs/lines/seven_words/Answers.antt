-- Each word is read back from its bits. Assumes nothing.
use borrow.Author.Rules.{rules, sfits_of}
use mathlib.Core.Path.{refl, ap₂, ◌∙◌}
use mathlib.Core.List.{◌∷◌}
use mir.Syntax.{w64}
use mir.Facts.{to_z-of_z}
use Rattle.sheet.specs.Lines.{seven_words}
use Rattle.sheet.proofs.lines.seven_words.Goals as goal

pub returns : goal.returns
unfolding seven_words
returns c =
    let k = c.numbered-number in
    ap₂ ◌∷◌ (to_z-of_z {w = w64} {z = k.result} (sfits_of k.type_inv) ∙ k.ensures) (ap₂ ◌∷◌ (to_z-of_z {w = w64} (search rules)) (ap₂ ◌∷◌ (to_z-of_z {w = w64} (search rules)) (ap₂ ◌∷◌ (to_z-of_z {w = w64} (search rules)) (ap₂ ◌∷◌ (to_z-of_z {w = w64} (search rules)) (ap₂ ◌∷◌ (to_z-of_z {w = w64} (search rules)) (ap₂ ◌∷◌ (to_z-of_z {w = w64} (search rules)) refl))))))
