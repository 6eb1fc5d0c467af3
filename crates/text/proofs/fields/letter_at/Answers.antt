-- A field of one byte is its letter (`one_byte`); any other has none (`no_byte`). Assumes nothing.
use Rattle.std.proofs.Common.{sym}
use Rattle.text.specs.FieldLaws.{one_byte, no_byte, letter_inside}
use Rattle.text.proofs.fields.letter_at.Goals as goal

pub bounds-s-from : goal.bounds-s-from
bounds-s-from c = letter_inside _ _ _ c.field_end-end.ensures c.if-end-from-eq1.true

pub returns-then-end-from-eq1 : goal.returns-then-end-from-eq1
returns-then-end-from-eq1 c = sym (one_byte _ _ _ c.field_end-end.ensures c.if-end-from-eq1.true)

pub returns-else-end-from-eq1 : goal.returns-else-end-from-eq1
returns-else-end-from-eq1 c = sym (no_byte _ _ _ c.field_end-end.ensures c.if-end-from-eq1.false)
