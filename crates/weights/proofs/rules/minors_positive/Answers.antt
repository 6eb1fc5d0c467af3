-- Weight, minor and determinant are read back from their bits, so each test is that of the definition, in its order. Assumes nothing.
use borrow.Author.Rules.{sfits_of}
use mathlib.Core.Path.{ap, ap₂, ◌∙◌}
use mathlib.Core.Bool.{◌&&◌}
use lib.IntN.{ℤ, pos}
use lib.Signed.{lt_z}
use mir.Syntax.{w64}
use mir.ValLaws.{to_z-of_z}
use Rattle.weights.specs.Rules.{minors_positive}
use Rattle.lists.specs.Stored.{back}
use Rattle.weights.proofs.Minors.{minor_is}
use Rattle.weights.proofs.rules.minors_positive.Goals as goal

pub returns : goal.returns
unfolding minors_positive
returns c =
    let d = c.determinant_of-d in
    let w = c.args.w in
    let p = c.requires in
    let e = minor_is w.ee w.nn w.en w.en _ c.minor-m.ensures p.ee p.nn p.en p.en in
    ap₂ ◌&&◌ (ap₂ ◌&&◌
    (ap (λ (z : ℤ). lt_z (pos 0) z) (back w.ee p.ee tt))
    (ap (λ (z : ℤ). lt_z (pos 0) z) (to_z-of_z w64 c.minor-m.result (sfits_of c.minor-m.type_inv) ∙ e)))
    (ap (λ (z : ℤ). lt_z (pos 0) z) (to_z-of_z w64 d.result (sfits_of d.type_inv) ∙ d.ensures))
