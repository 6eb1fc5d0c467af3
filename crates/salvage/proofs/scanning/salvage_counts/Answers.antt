-- The loop counts what it has passed (`CountedTo`). Assumes nothing.
use mathlib.Core.Path.{sym, ◌∙◌}
use native.Mathlib.Omega.{arith}
use lib.ListN.{length}
use Rattle.salvage.proofs.SalvageLaws.{run_few}
use Rattle.salvage.proofs.Counted.{counted_none, counted_few, counted_keep, counted_skip, counted_all}
use Rattle.salvage.proofs.scanning.salvage_counts.Goals as goal

pub loop-at-init : goal.loop-at-init
loop-at-init c = counted_none _

pub overflow_sub-file : goal.overflow_sub-file
overflow_sub-file c = c.loop-at.invariant.inside

pub overflow_add-skipped : goal.overflow_add-skipped
overflow_add-skipped c =
    let l = c.loop-at in
    omega (arith, c.run_count-skipped.ensures, run_few l.end l.at, (counted_few _ _ _ _ _ l.invariant).0)

pub overflow_add-kept : goal.overflow_add-kept
overflow_add-kept c = let l = c.loop-at in omega (arith, (counted_few _ _ _ _ _ l.invariant).1)

pub loop-at-preserved-then-right_at : goal.loop-at-preserved-then-right_at
loop-at-preserved-then-right_at c =
    let l = c.loop-at in
    rw c.run_count-skipped.ensures (counted_keep _ l.skipped l.kept l.end l.at l.invariant (omega arith) (sym c.right_at.ensures ∙ c.if-right_at.true))

pub loop-at-preserved : goal.loop-at-preserved
loop-at-preserved c =
    let l = c.loop-at in
    counted_skip _ l.skipped l.kept l.end l.at l.invariant (omega arith) (sym c.right_at.ensures ∙ c.if-right_at.false)

pub overflow_add-skipped-2 : goal.overflow_add-skipped-2
overflow_add-skipped-2 c =
    let l = c.loop-at in
    omega (arith, c.run_count-skipped-2.ensures, run_few l.end (length c.args.file.now), (counted_few _ _ _ _ _ l.invariant).0)

pub returns : goal.returns
returns c =
    let l = c.loop-at in
    counted_all _ l.skipped l.kept l.end l.at l.invariant (omega arith) c.run_count-skipped-2.ensures
