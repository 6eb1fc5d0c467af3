-- Both counts are small, so the casts keep them. Assumes nothing.
use mathlib.Core.Path.{refl, ap₂}
use mathlib.Core.List.{◌∷◌}
use lib.IntN.{pos}
use Rattle.lists.specs.Stored.{back}
use Rattle.sheet.proofs.sheet.count_line.Goals as goal

pub returns : goal.returns
returns c = ap₂ ◌∷◌ (back (pos c.args.records) c.requires.0 tt) (ap₂ ◌∷◌ (back (pos c.args.n) c.requires.1 tt) refl)
