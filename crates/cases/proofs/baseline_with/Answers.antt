-- `baseline_with`: the weight is stored in 64 bits and read again. Assumes nothing.
use mathlib.Core.Path.{◌∙◌}
use mir.Syntax.{w64}
use mir.Facts.{to_z-of_z}
use Rattle.cases.specs.Table.{baseline_by}
use Rattle.cases.proofs.baseline_with.Goals as goal

pub returns : goal.returns
returns c = c.baseline_of.ensures ∙ (λ i. baseline_by (to_z-of_z {w = w64} c.ranges.en i))
