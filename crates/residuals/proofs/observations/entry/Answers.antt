-- The entry that the tests chose, read back from its bits by the size that a quotient gives. Assumes nothing.
use native.Mathlib.Omega.{arith}
use mathlib.Core.Path.{◌≡◌}
use Rattle.lists.specs.Stored.{back}
use Rattle.residuals.specs.Observations.{adjugate_entry}
use Rattle.residuals.proofs.observations.entry.Goals as goal

pub returns-in-0 : goal.returns-in-0
unfolding adjugate_entry
returns-in-0 c = rw c.in-0.is (back c.args.w.east (c.requires.1 0).small tt)

pub returns-in-1 : goal.returns-in-1
unfolding adjugate_entry
returns-in-1 c = rw c.in-1.is (back c.args.w.north (c.requires.1 1).small tt)

pub returns-in_default : goal.returns-in_default
unfolding adjugate_entry
returns-in_default c =
    let e : c.args.a ≡ 2 = omega (arith, c.requires.0) in
    rw e (back c.args.w.up (c.requires.1 2).small tt)
