-- The refusals in their order, and then the entries. Assumes nothing.
use mathlib.Core.Path.{sym, ◌∙◌}
use native.Mathlib.Omega.{arith}
use Rattle.book_files.specs.WritingLaws.{written-room, written-carried, written-length, file_left_lem, file_stays}
use Rattle.book_files.proofs.writing.write_file.Goals as goal

pub returns-then-file-n : goal.returns-then-file-n
returns-then-file-n c = (written-room _ _ c.count_entries-n.ensures.0 (omega arith), file_stays _ _ _)

pub returns-then-not-all_carried : goal.returns-then-not-all_carried
returns-then-not-all_carried c = (written-carried _ _ c.count_entries-n.ensures.0 (omega arith) (sym c.all_carried.ensures ∙ c.if-not-all_carried.true), file_stays _ _ _)

pub write_entries-requires : goal.write_entries-requires
write_entries-requires c = (c.requires, omega (arith, c.count_entries-n.ensures.0, c.if-file-n.false))

pub overflow_mul-result : goal.overflow_mul-result
overflow_mul-result c = omega (arith, c.count_entries-n.ensures.1)

pub returns : goal.returns
returns c = (
  written-length _ _ c.count_entries-n.ensures.0 (omega arith) (sym c.all_carried.ensures ∙ c.if-not-all_carried.false),
  file_left_lem _ _ c.count_entries-n.ensures.0 (omega arith) c.write_entries.ensures,
)
