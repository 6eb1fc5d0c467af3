-- `put_entries` puts the journal's slots. The loop's invariant: those passed stand in their order. Assumes nothing.
use Prim.Native.Nat.{◌*◌}
use mathlib.Core.Path.{◌≡◌, refl, ◌∙◌}
use native.Mathlib.Omega.{arith}
use lib.ListN.{get_or}
use Rattle.book.specs.Journal.{journal_size, free}
use Rattle.layout.specs.Layout.{reversal_words, entries_start, reversal_length}
use Rattle.layout.specs.BookWords.{length_reversal}
use Rattle.layout.proofs.Parts.{parts_none, parts_more}
use Rattle.layout.proofs.writing.put_entries.Goals as goal

pub loop-k-init : goal.loop-k-init
loop-k-init c = (parts_none _ (8 * entries_start) _, refl)

pub loop-k-preserved : goal.loop-k-preserved
loop-k-preserved c = (
  parts_more c.args.s.now c.loop-k.s _ (8 * entries_start) reversal_length c.loop-k.k _ (λ q. reversal_words (get_or c.args.entries q free)) (λ i. length_reversal _) (omega arith) c.loop-k.invariant.0 c.put_reversal.ensures,
  c.put_reversal.auto.s ∙ c.loop-k.invariant.1,
)

pub returns : goal.returns
returns c = let e : c.loop-k.k ≡ journal_size = omega arith in rw e at c.loop-k.invariant.0
