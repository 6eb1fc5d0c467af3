-- `journal_in` reads the journal's counters, and its slots one by one. The loop's invariant: the slots passed are read, and the counters stay. Assumes nothing.
use mathlib.Core.Path.{refl, ◌∙◌}
use native.Mathlib.Omega.{arith}
use borrow.Author.Rules.{rules}
use Rattle.words.specs.RunLaws.{length_words}
use Rattle.lists.specs.Filling.{starts, goes_on, finish}
use Rattle.book.specs.Journal.{journal_size, free}
use Rattle.layout.specs.Layout.{book_in, book_length}
use Rattle.layout.specs.Laid.{reversal_in_lem}
use Rattle.layout.specs.Bytes.{words_of}
use Rattle.layout.proofs.reading.journal_in.Goals as goal

pub loop-k-init : goal.loop-k-init
loop-k-init c = (refl, refl, starts free journal_size _ _ (search rules))

pub loop-k-preserved : goal.loop-k-preserved
loop-k-preserved c =
    let s = c.args.s.now in
    (c.loop-k.invariant.0, c.loop-k.invariant.1, goes_on free journal_size _ _ c.loop-k.journal.entries c.loop-k.k _ (omega arith) c.loop-k.invariant.2 (c.slot_in.ensures ∙ reversal_in_lem (words_of s) (length_words s 0 book_length) c.loop-k.k (omega arith)))

pub returns : goal.returns
unfolding book_in
returns c =
    λ i. record {
      entries = finish free journal_size _ _ c.loop-k.journal.entries c.loop-k.k (omega arith) c.loop-k.invariant.2 i;
      next = (c.loop-k.invariant.0 ∙ c.next_in-next.ensures) i;
      count = (c.loop-k.invariant.1 ∙ c.journal_count_in-count.ensures) i;
    }
