-- `level`: the difference is stored in 64 bits and read again. Assumes nothing.
use mathlib.Core.Path.{◌∙◌}
use mir.Syntax.{w64}
use mir.Facts.{to_z-of_z}
use Rattle.cases.specs.Table.{level_by}
use Rattle.cases.proofs.level.Goals as goal

pub returns : goal.returns
returns c = c.height_of.ensures ∙ (λ i. level_by (to_z-of_z {w = w64} c.ranges.up i))
