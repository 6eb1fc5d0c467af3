-- By whether the record is empty: nothing, or its entry. Assumes nothing.
use mathlib.Core.Path.{sym, ◌∙◌}
use native.Mathlib.Omega.{arith}
use Rattle.book_files.specs.WritingLaws.{one_entry, put_none, put_one}
use Rattle.book_files.proofs.writing.put_entry.Goals as goal

pub returns-then-is_empty : goal.returns-then-is_empty
returns-then-is_empty c = put_none _ _ _ _ (sym c.is_empty.ensures ∙ c.if-is_empty.true)

pub write_entry-requires : goal.write_entry-requires
write_entry-requires c =
    let one = one_entry c.args.p c.args.r (sym c.is_empty.ensures ∙ c.if-is_empty.false) in
    (omega (arith, one, c.requires.2), c.requires.1)

pub overflow_add-result : goal.overflow_add-result
overflow_add-result c =
    let one = one_entry c.args.p c.args.r (sym c.is_empty.ensures ∙ c.if-is_empty.false) in
    record { fits = omega (arith, one, c.requires.2) }

pub returns : goal.returns
returns c =
    let one = put_one c.args.p c.args.r c.args.file.now c.args.at (sym c.is_empty.ensures ∙ c.if-is_empty.false) c.entry_of-w.ensures in
    (one.0, c.write_entry.ensures ∙ one.1)
