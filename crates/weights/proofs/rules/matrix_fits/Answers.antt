-- The definition, with what the two calls ensure in it. Assumes nothing.
use Rattle.weights.specs.Rules.{matrix_fits}
use Rattle.weights.proofs.rules.matrix_fits.Goals as goal

pub returns : goal.returns
unfolding matrix_fits
returns c = rw (c.minors_positive.ensures, c.adjugate_fits.ensures)
