-- A field that ends the line has none after it (`rest-none`); else the numbers from the next field on are read (`rest_some`). Assumes nothing.
use Rattle.text.specs.Reading.{rest-none, rest_some}
use Rattle.text.proofs.fields.read_rest.Goals as goal

pub returns-then-s-end : goal.returns-then-s-end
returns-then-s-end c = rest-none _ _ _ _ _ c.field_end-end.ensures c.if-s-end.true

pub returns : goal.returns
returns c = rest_some _ _ _ _ _ c.field_end-end.ensures _ _ c.if-s-end.false c.read_numbers.ensures
