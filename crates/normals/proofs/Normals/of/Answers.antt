-- `Normals::of` puts together what `add_records` makes of zeros. Assumes nothing.
use Rattle.normals.proofs.Normals.of.Goals as goal

pub returns : goal.returns
returns c = λ i. record { matrix = c.add_records.ensures.matrix i; right = c.add_records.ensures.right i }
