-- The loop's invariant: the slots passed pass the test (`all_below`). The first that fails settles it (`all_fails`); after the last, `all_done`. Assumes nothing.
use mathlib.Core.Path.{sym, ◌∙◌}
use native.Mathlib.Omega.{arith}
use Rattle.lists.specs.All.{all_none, all_more, all_done, all_fails}
use Rattle.book.specs.Journal.{journal_size}
use Rattle.book.proofs.soundness.slots_fit.Invariants.{test}
use Rattle.book.proofs.soundness.slots_fit.Goals as goal

pub loop-slot-init : goal.loop-slot-init
loop-slot-init c = all_none _

pub returns-then-not-slot_fits : goal.returns-then-not-slot_fits
returns-then-not-slot_fits c =
    let j = c.args.journal in
    sym (all_fails journal_size (test j.entries j.next j.count) c.loop-slot.slot (omega arith) (sym c.slot_fits.ensures ∙ c.if-not-slot_fits.true))

pub loop-slot-preserved : goal.loop-slot-preserved
loop-slot-preserved c =
    let j = c.args.journal in
    all_more _ (test j.entries j.next j.count) c.loop-slot.invariant (sym c.slot_fits.ensures ∙ c.if-not-slot_fits.false)

pub returns : goal.returns
returns c =
    let j = c.args.journal in
    all_done journal_size (test j.entries j.next j.count) c.loop-slot.slot c.loop-slot.auto.slot-end (omega arith) c.loop-slot.invariant
