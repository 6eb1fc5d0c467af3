-- By the opening: `replay_refused`; or the rows run are inside both lists, and `replay_done` closes. Assumes nothing.
use Rattle.std.proofs.Common.{◌≡◌, ◌/◌, min, length, arith, refl}
use Rattle.std.proofs.lemmas.Result.{err_from_is_err_and}
use Rattle.book.specs.Rows.{row_length}
use Rattle.book.specs.Refusals.{refused-number}
use Rattle.book.proofs.Replays.{replay_refused, replay_done}
use Rattle.book.proofs.rows.replay.Goals as goal

pub returns-in_err-book : goal.returns-in_err-book
returns-in_err-book c =
    let p = err_from_is_err_and c.from_residual.result c.from_residual.ensures.1 in
    rw (p.1, p.2) (replay_refused c.args.list.now c.args.calls.now c.args.answers.now _ c.in_err-book.ensures.opened (refused-number _))

pub run-requires : goal.run-requires
run-requires c =
    let n : c.min-n.result ≡ min (length c.args.calls.now / row_length) (length c.args.answers.now) = c.min-n.ensures in
    (c.in_ok-book.ensures.sound, omega arith, omega arith)

pub returns : goal.returns
returns c = replay_done _ _ _ _ c.in_ok-book.ensures.opened refl _ c.min-n.ensures _ _ c.run.ensures
