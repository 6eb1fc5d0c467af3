-- By the two tests of the counters: the first that fails settles it, else what `slots_fit` ensures. Assumes nothing.
use borrow.Author.Tests.{lt-ltb, le-ltb, le-leb, lt-leb}
use Rattle.book.specs.Journal.{journal_fits}
use Rattle.book.proofs.soundness.journal_fits.Goals as goal
use Rattle.book.proofs.soundness.journal_fits.Goals.{then-journal-ge-SIZE-via-then-journal-ge-SIZE, then-journal-ge-SIZE-via-else-journal-ge-SIZE+then-journal-gt-SIZE}

pub returns-then-journal-ge-SIZE : goal.returns-then-journal-ge-SIZE
unfolding journal_fits
returns-then-journal-ge-SIZE c =
    elim c.then-journal-ge-SIZE.branch [
      | then-journal-ge-SIZE-via-then-journal-ge-SIZE w ↦ rw (le-ltb _ _ w.if-journal-ge-SIZE.true)
      | then-journal-ge-SIZE-via-else-journal-ge-SIZE+then-journal-gt-SIZE w ↦ rw (lt-ltb _ _ w.if-journal-ge-SIZE.false, lt-leb _ _ w.if-journal-gt-SIZE.true)
    ]

pub returns : goal.returns
unfolding journal_fits
returns c = rw (lt-ltb _ _ c.if-journal-ge-SIZE.false, le-leb _ _ c.if-journal-gt-SIZE.false) c.slots_fit.ensures
