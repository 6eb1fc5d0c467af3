-- `slot_fits`, by the age of the slot. Assumes nothing.
use borrow.Author.Tests.{lt-ltb, le-ltb}
use Rattle.book.proofs.soundness.slot_fits.Goals as goal

pub returns-then-slot_age-count : goal.returns-then-slot_age-count
returns-then-slot_age-count c = rw (← c.slot_age.ensures, lt-ltb _ _ c.if-slot_age-count.true)

pub returns-else-slot_age-count : goal.returns-else-slot_age-count
returns-else-slot_age-count c = rw (← c.slot_age.ensures, le-ltb _ _ c.if-slot_age-count.false) c.is_free.ensures
