-- `undo` takes the latest edit back, or is refused. Assumes nothing.
use native.Mathlib.Omega.{arith}
use Rattle.layout.specs.Bytes.{book_of}
use Rattle.layout.specs.CodecLaws.{fits-room}
use Rattle.lent_edits.proofs.Changed.{undo_none, undo_done}
use Rattle.lent_edits.proofs.changes.undo.Goals as goal

pub journal_count_in-count-requires : goal.journal_count_in-count-requires
journal_count_in-count-requires c = fits-room c.args.s.now c.requires

pub returns-then-count-eq0 : goal.returns-then-count-eq0
returns-then-count-eq0 c = undo_none c.args.s.now (book_of c.args.s.now) _ c.journal_count_in-count.ensures c.if-count-eq0.true

pub restore-requires : goal.restore-requires
restore-requires c = (c.requires, c.journal_count_in-count.ensures, omega arith)

pub returns : goal.returns
returns c = undo_done c.args.s.now (book_of c.args.s.now) _ _ c.journal_count_in-count.ensures c.if-count-eq0.false c.restore.ensures
