-- `Normals::blank` gives N and u of no records. Assumes nothing.
use mathlib.Core.Path.{refl}
use Rattle.normals.specs.Blank.{blank_normals}
use Rattle.normals.proofs.Normals.blank.Goals as goal

pub returns : goal.returns
unfolding blank_normals
returns c = refl
