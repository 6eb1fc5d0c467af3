-- An edit or an undo is the call on lent bytes (`Applies`); any other command leaves the bytes, and its edit is none (`edits_other`). Assumes nothing.
use mathlib.Core.Path.{ap}
use Rattle.book.specs.Outcome.{Outcome}
use Rattle.layout.specs.Bytes.{book_of}
use Rattle.input_lines.specs.Runs.{edits}
use Rattle.input_lines.proofs.Arms.{edits_other}
use Rattle.input_lines.proofs.editing.edit.Goals as goal

pub returns-in-Call : goal.returns-in-Call
unfolding edits
returns-in-Call c = rw c.in-Call.is (record { number = c.apply.ensures.number; reads = c.apply.ensures.reads }, c.apply.ensures.fits)

pub returns-in_default : goal.returns-in_default
returns-in_default c =
    let e = edits_other (book_of c.args.book.now) c.args.command c.in_default.not-Call in
    (record { number = ap (λ (x : Outcome). x.refusal) e; reads = ap (λ (x : Outcome). x.book) e }, c.requires)
