-- The slot written is below the size; the counters are what `slot_after` and `one_more` ensure. The rest is congruence (`cc`). Assumes nothing.
use Rattle.book.proofs.Journal.push.Goals as goal

pub returns : goal.returns
returns c = cc
