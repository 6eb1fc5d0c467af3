-- `journal_count_in` reads a counter of the journal. Assumes nothing.
use Rattle.layout.specs.Layout.{book_in}
use Rattle.layout.proofs.reading.journal_count_in.Goals as goal

pub returns : goal.returns
unfolding book_in
returns c = c.count_in.ensures
