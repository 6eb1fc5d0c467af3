-- The tests read the table of unknowns at the U component of each end. Assumes nothing.
use Rattle.sheet.specs.Totals.{in_adjustment_in}
use Rattle.sheet.proofs.totals.in_adjustment.Goals as goal

pub returns : goal.returns
unfolding in_adjustment_in
returns c = rw (c.acts_in.ensures, c.is_unknown.ensures, c.is_unknown-2.ensures, c.from_of.ensures, c.to_of.ensures)
