-- The loop writes the entries of the places passed (`Wrote`). Assumes nothing.
use native.Mathlib.Omega.{arith}
use Rattle.book_files.specs.WritingLaws.{wrote_none, wrote_more, room_next, wrote_all}
use borrow.Author.Rules.{rules}
use Rattle.book_files.proofs.writing.write_entries.Goals as goal

pub loop-p-init : goal.loop-p-init
loop-p-init c = wrote_none _ _

pub put_entry-at-requires : goal.put_entry-at-requires
put_entry-at-requires c = (search rules, omega (arith, c.loop-p.invariant.next), room_next _ _ _ _ _ c.loop-p.invariant c.record_in-r.ensures c.loop-p-test.true c.requires.1)

pub loop-p-preserved : goal.loop-p-preserved
loop-p-preserved c = wrote_more _ _ _ _ _ c.loop-p.invariant c.record_in-r.ensures c.put_entry-at.ensures.0 c.put_entry-at.ensures.1

pub returns : goal.returns
returns c = wrote_all _ _ _ _ _ c.loop-p.invariant (omega arith)
