-- The bytes that the book writes hold it, so a proposal on them is one on the book.
use Rattle.engine.proofs.propose.Goals as goal

pub returns : goal.returns
returns c = record { proposed = rw c.book_bytes-s.ensures.1 at c.propose_in.ensures.proposed; short = c.propose_in.ensures.short }
