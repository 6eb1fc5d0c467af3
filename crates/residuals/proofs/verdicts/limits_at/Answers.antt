-- The constant table is the definition's, entry by entry. Assumes nothing.
use mathlib.Core.Path.{refl}
use Rattle.residuals.specs.Verdicts.{chi_square}
use Rattle.residuals.proofs.verdicts.limits_at.Goals as goal

pub returns : goal.returns
unfolding chi_square
returns c = refl
