-- One run, or none. Assumes nothing.
use mathlib.Core.Path.{sym, ap}
use lib.ListN.{length}
use Rattle.salvage.proofs.ScanLaws.{run_one, run_none}
use Rattle.salvage.proofs.scanning.run_count.Goals as goal

pub returns-then-a-b : goal.returns-then-a-b
returns-then-a-b c = sym (ap length (run_one c.args.a c.args.b c.if-a-b.true))

pub returns-else-a-b : goal.returns-else-a-b
returns-else-a-b c = sym (ap length (run_none c.args.a c.args.b c.if-a-b.false))
