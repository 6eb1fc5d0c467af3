-- The slot read is the one that `slot_before` ensures, and it is below the size; the rest is congruence (`cc`). Assumes nothing.
use Rattle.book.proofs.Journal.last.Goals as goal

pub returns : goal.returns
returns c = cc
