-- The slot blanked is the one that `slot_before` ensures; there is an edit, so one less fits. The rest is congruence (`cc`). Assumes nothing.
use Rattle.book.proofs.Journal.pop.Goals as goal

pub returns : goal.returns
returns c = cc
