-- Each of the three sets has the tied stations of its component, so the first component missing from them is the first untied (`first_found`).
use mathlib.Core.Path.{◌∙◌}
use native.Mathlib.Omega.{arith}
use Rattle.chains.specs.ChainLaws.{first_found}
use Rattle.chains.proofs.records.first_untied.Goals as goal

pub positions_in-positions-requires : goal.positions_in-positions-requires
positions_in-positions-requires c = (c.requires.0, c.requires.1.ends)

pub tied_in-east-requires : goal.tied_in-east-requires
tied_in-east-requires c = (c.requires.0, c.requires.1, omega arith, c.positions_in-positions.ensures)

pub tied_in-north-requires : goal.tied_in-north-requires
tied_in-north-requires c = (c.requires.0, c.requires.1, omega arith, c.positions_in-positions.ensures)

pub tied_in-up-requires : goal.tied_in-up-requires
tied_in-up-requires c = (c.requires.0, c.requires.1, omega arith, c.positions_in-positions.ensures)

pub returns-clause-position : goal.returns-clause-position
returns-clause-position c =
    c.first_missing.ensures.position
    ∙ first_found c.tied_in-east.ensures c.tied_in-north.ensures c.tied_in-up.ensures
