-- `journal_in` reads the journal's counters, and its slots one by one. The loop's invariant: the slots passed are read, and the counters stay. Assumes nothing.
use Prim.Native.Nat.{◌+◌, ◌*◌}
use mathlib.Core.Path.{◌≡◌}
use Rattle.lists.specs.Filling.{Mapped}
use Rattle.book.specs.Journal.{journal_size, free}
use Rattle.layout.specs.Layout.{reversal_in, reversal_length, entries_start}
use Rattle.layout.specs.Bytes.{words_of}
use Rattle.layout.proofs.reading.journal_in.Given as goal

abbrev pub invariant-loop-k : goal.invariant-loop-k
invariant-loop-k l = (l.journal.next ≡ l.next)
    × (l.journal.count ≡ l.count)
    × Mapped free journal_size (λ i. reversal_in (words_of l.s) (entries_start + i * reversal_length)) l.initial.journal.entries l.journal.entries l.k
