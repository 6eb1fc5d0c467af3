-- By the test: `read_fits`, or `read_over`. Assumes nothing.
use mathlib.Core.Path.{sym}
use Rattle.stations.specs.FlatLaws.{read_fits, read_over}
use Rattle.stations.proofs.numbers.read_count.Goals as goal

pub returns-then-n-le-STATIONS : goal.returns-then-n-le-STATIONS
returns-then-n-le-STATIONS c = sym (read_fits _ c.if-n-le-STATIONS.true)

pub returns-else-n-le-STATIONS : goal.returns-else-n-le-STATIONS
returns-else-n-le-STATIONS c = sym (read_over _ c.if-n-le-STATIONS.false)
