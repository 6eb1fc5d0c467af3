-- `holds_book` judges bytes of any length. Assumes nothing.
use Rattle.layout.proofs.Whole.{judged_short}
use Rattle.layout.proofs.laid.holds_book.Goals as goal

pub returns-then-s-lt-BOOK_BYTES : goal.returns-then-s-lt-BOOK_BYTES
returns-then-s-lt-BOOK_BYTES c = judged_short _ c.if-s-lt-BOOK_BYTES.true

pub returns : goal.returns
returns c = c.fits.ensures
