-- The loop has written what it has passed (`WrittenTo`). Assumes nothing.
use Prim.Native.Nat.{◌-◌}
use lib.ListN.{length}
use Rattle.salvage.proofs.Written.{WrittenTo}
use Rattle.salvage.proofs.writing.write_salvaged.Given as goal

abbrev pub invariant-loop-at : goal.invariant-loop-at
invariant-loop-at l = WrittenTo l.file l.initial.fresh l.initial.skipped l.initial.kept l.fresh l.skipped l.kept l.runs l.entries l.end l.at

abbrev pub decreases-loop-at : goal.decreases-loop-at
decreases-loop-at l = length l.file - l.at
