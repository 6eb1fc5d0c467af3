-- By the phase: an ended run prints nothing, an opened one its book's end, and an unopened one opens first; then it prints the refusal, or the end of the book
-- that the bytes hold now. Assumes nothing.
use Rattle.std.proofs.Common.{refl, arith}
use Rattle.book.specs.Refusals.{refused-number}
use Rattle.layout.specs.Bytes.{book_of}
use Rattle.adjustment.specs.EndLaws.{end_ended, end_opened, end_refused, end_fresh}
use Rattle.adjustment.proofs.ending.finish.Goals as goal

pub returns-in-Ended : goal.returns-in-Ended
returns-in-Ended c = let a = c.args in end_ended a.state (book_of a.book.now) a.list.now a.x.now a.m.now a.out.now c.in-Ended.is

pub returns-in-Opened : goal.returns-in-Opened
returns-in-Opened c = let a = c.args in end_opened a.state (book_of a.book.now) a.list.now a.x.now a.m.now a.out.now c.in-Opened.is c.conclude.ensures

pub returns-in-Ok : goal.returns-in-Ok
returns-in-Ok c =
    let a = c.args in
    end_fresh a.state (book_of a.book.now) a.list.now a.x.now a.m.now a.out.now c.in-Unopened.is c.in-Ok.ensures refl c.conclude-in-Ok.ensures

pub returns-in-Err : goal.returns-in-Err
returns-in-Err c =
    let a = c.args in
    let w = c.write_refused.ensures in
    end_refused a.state (book_of a.book.now) a.list.now a.x.now a.m.now a.out.now c.in-Unopened.is c.in-Err.ensures (refused-number c.in-Err.refusal)
    (rw c.from.ensures at w.written)
    (omega (arith, w.upper_bound))
