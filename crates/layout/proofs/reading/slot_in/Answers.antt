-- `slot_in` reads a slot of the journal. Assumes nothing.
use mathlib.Core.Path.{sym, ◌∙◌}
use Rattle.words.specs.RunLaws.{length_words}
use Rattle.layout.specs.Bytes.{words_of}
use Rattle.layout.specs.Laid.{reversal_in_lem}
use Rattle.layout.specs.Layout.{book_length}
use Rattle.layout.proofs.reading.slot_in.Goals as goal

pub returns : goal.returns
returns c =
    let w = words_of c.args.s.now in
    (λ i. record { place = c.count_in-place.ensures i; prior = c.entry_in-prior.ensures i }) ∙ sym (reversal_in_lem w (length_words c.args.s.now 0 book_length) c.args.k c.requires.1)
