-- Each variance is what its call of `covariance` ensures, read back from the array. Assumes nothing.
use borrow.Author.Rules.{sfits_of}
use mathlib.Core.Path.{refl, ap₂, ◌∙◌}
use mathlib.Core.List.{◌∷◌}
use mir.Syntax.{w64}
use mir.ValLaws.{to_z-of_z}
use Rattle.residuals.specs.Components.{variances_in}
use Rattle.residuals.proofs.variances.Covariances.variances_of.Goals as goal

pub returns : goal.returns
unfolding variances_in
returns c =
    let x = c.covariance-x in let y = c.covariance-y in let z = c.covariance-z in
    ap₂ ◌∷◌ (to_z-of_z w64 x.result (sfits_of x.type_inv) ∙ x.ensures)
    (ap₂ ◌∷◌ (to_z-of_z w64 y.result (sfits_of y.type_inv) ∙ y.ensures)
    (ap₂ ◌∷◌ (to_z-of_z w64 z.result (sfits_of z.type_inv) ∙ z.ensures) refl))
