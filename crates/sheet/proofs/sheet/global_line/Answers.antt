-- The words are read back from their bits; the third is what the two calls ensure. Assumes nothing.
use borrow.Author.Rules.{sfits_of}
use mathlib.Core.Path.{refl, ap, ap₂, ◌∙◌}
use mathlib.Core.List.{◌∷◌}
use mir.Syntax.{w64}
use mir.ValLaws.{to_z-of_z}
use Rattle.residuals.specs.Verdicts.{verdict_word}
use Rattle.sheet.proofs.sheet.global_line.Goals as goal

pub returns : goal.returns
returns c =
    let t = to_z-of_z w64 c.args.t c.ranges.t in let d = to_z-of_z w64 c.args.d c.ranges.d in
    ap₂ ◌∷◌ t (ap₂ ◌∷◌ d (ap₂ ◌∷◌ (to_z-of_z w64 c.from-w.result (sfits_of c.from-w.type_inv) ∙ c.from-w.ensures ∙ ap verdict_word c.global_verdict.ensures ∙ rw (t, d)) refl))
