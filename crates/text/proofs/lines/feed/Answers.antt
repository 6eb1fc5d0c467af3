-- By the room in the line buffer: no byte is left of the chunk (`feeds_none`), the part fits (`feeds-all`), or its front does (`feeds-cut`). Assumes nothing.
use mathlib.Core.Path.{refl}
use Rattle.text.specs.LineLaws.{feeds-all, feeds-cut, feeds_none}
use Rattle.text.proofs.lines.feed.Goals as goal

pub returns-then-chunk-end : goal.returns-then-chunk-end
returns-then-chunk-end c = feeds_none _ _ _ _ _ _ c.find-end.ensures _ c.if-chunk-end.true c.ended.ensures

pub returns-then-end-at : goal.returns-then-end-at
returns-then-end-at c = feeds-all _ _ _ _ _ _ c.find-end.ensures _ _ _ _ refl c.if-end-at.true c.write_text-p.ensures c.ended-then-end-at.ensures

pub returns : goal.returns
returns c = feeds-cut _ _ _ _ _ _ c.find-end.ensures _ _ _ _ refl c.if-end-at.false c.write_text-p-2.ensures c.ended-2.ensures
