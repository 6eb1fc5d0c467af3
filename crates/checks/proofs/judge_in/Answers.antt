-- The parts read from the bytes are those of the book that they hold, so `accept` judges that book on its own N and u (`judge-is`), and 9 never comes (`checked-is`).
use mathlib.Core.Path.{sym, ◌∙◌}
use Rattle.layout.specs.Bytes.{book_of}
use Rattle.layout.specs.CodecLaws.{fits-room, fits-tested, fits-sound}
use Rattle.checks.specs.CheckLaws.{sound-in_range, judge-is, checked-is}
use Rattle.checks.proofs.judge_in.Goals as goal

pub matrix_in-normal-requires : goal.matrix_in-normal-requires
matrix_in-normal-requires c = fits-room _ c.requires.0

pub right_in-right-requires : goal.right_in-right-requires
right_in-right-requires c = fits-room _ c.requires.0

pub accept-requires : goal.accept-requires
accept-requires c = (c.requires.1, rw (c.requires.2, c.requires.3, c.matrix_in-normal.ensures, c.right_in-right.ensures) (sound-in_range (book_of c.args.s.now) (fits-sound _ c.requires.0)))

pub returns : goal.returns
returns c =
    let a = c.args in
    let b = book_of a.s.now in
    (rw (c.requires.2, c.requires.3, c.matrix_in-normal.ensures, c.right_in-right.ensures) at c.accept.ensures)
    ∙ judge-is b (fits-sound _ c.requires.0) a.x.now a.m.now a.room
    ∙ sym (checked-is b (fits-tested _ c.requires.0) a.x.now a.m.now a.room)
