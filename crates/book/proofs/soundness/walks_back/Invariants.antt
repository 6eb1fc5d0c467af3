-- `walks_back`, the latest reversal first. The loop's invariant: what is left, over the places that are empty by now, can be undone just where all could from the start. Assumes nothing.
use Prim.Native.Nat.{◌<◌, ◌-◌}
use mathlib.Core.Path.{◌≡◌}
use lib.ListN.{length}
use Rattle.book.specs.Journal.{journal_size, entries_before}
use Rattle.book.specs.Empties.{undoable_by}
use Rattle.book.proofs.soundness.walks_back.Given as goal

abbrev pub invariant-loop-taken : goal.invariant-loop-taken
invariant-loop-taken l = (l.slot < journal_size)
    × (length l.state ≡ 256)
    × (undoable_by l.rules.network l.initial.state (entries_before l.journal.entries l.initial.slot l.journal.count) ≡ undoable_by l.rules.network l.state (entries_before l.journal.entries l.slot (l.journal.count - l.taken)))
