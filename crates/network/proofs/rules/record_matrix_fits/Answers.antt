-- In range the record's weights are small, as `matrix_fits` asks (`weights-small`). Assumes nothing.
use Rattle.std.proofs.Common.{sym, subst}
use Rattle.weights.specs.Ranges.{SmallWeights}
use Rattle.network.specs.Ranges.{weights-small}
use Rattle.network.proofs.rules.record_matrix_fits.Goals as goal

pub matrix_fits-requires : goal.matrix_fits-requires
matrix_fits-requires c = subst SmallWeights (sym c.weight_matrix_of.ensures) (weights-small _ c.requires)
