-- `put_entries` puts the journal's slots. The loop's invariant: those passed stand in their order. Assumes nothing.
use Prim.Native.Nat.{◌*◌}
use mathlib.Core.Path.{◌≡◌}
use lib.ListN.{length, get_or}
use Rattle.words.specs.Runs.{put_words}
use Rattle.words.specs.Concat.{concat_below}
use Rattle.book.specs.Journal.{free}
use Rattle.layout.specs.Layout.{reversal_words, entries_start}
use Rattle.layout.proofs.writing.put_entries.Given as goal

abbrev pub invariant-loop-k : goal.invariant-loop-k
invariant-loop-k l = (l.s ≡ put_words l.initial.s (8 * entries_start) (concat_below l.k (λ q. reversal_words (get_or l.entries q free)))) × (length l.s ≡ length l.initial.s)
