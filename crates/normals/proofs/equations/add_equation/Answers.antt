-- `add_equation` adds a record's share to N and u. Assumes nothing.
use mathlib.Core.Path.{ap, ◌∙◌}
use lib.IntN.{ℤ}
use Rattle.integers.specs.Tables.{plus}
use Rattle.normals.specs.Equations.{block_n, block_u}
use Rattle.lists.specs.Stored.{back}
use Rattle.normals.proofs.equations.add_equation.Goals as goal

pub returns : goal.returns
returns c = let e = back c.args.sign c.requires.0 tt in record { matrix = c.add_matrix.ensures ∙ ap (λ (z : ℤ). plus 2304 c.args.n.now z (block_n c.args.equation)) e; right = c.add_right.ensures ∙ ap (λ (z : ℤ). plus 48 c.args.u.now z (block_u c.args.equation)) e }
