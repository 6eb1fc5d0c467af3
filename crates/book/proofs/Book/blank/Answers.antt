-- N and u are what `Normals::blank` ensures; the other parts stand as the definition has them. Assumes nothing.
use mathlib.Core.Path.{ap}
use lib.ListN.{replicate}
use Rattle.network.specs.Records.{vacant}
use Rattle.normals.specs.Blank.{blank_normals}
use Rattle.normals.specs.declared.Normals.{Normals}
use Rattle.book.specs.Journal.{empty_journal}
use Rattle.book.proofs.Book.blank.Goals as goal

pub returns : goal.returns
unfolding blank_normals
returns c = ap (λ (n : Normals). record { network = c.args.net; places = replicate 256 vacant; journal = empty_journal; normals = n }) c.blank-normals.ensures
