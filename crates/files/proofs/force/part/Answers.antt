-- `part`, by what was found: the part of the entry in its file, or the empty one. Assumes nothing.
use Rattle.files.specs.Force.{Inside, shown, lies_at}
use Rattle.files.proofs.force.part.Goals as goal

pub entry_part-requires : goal.entry_part-requires
unfolding Inside
entry_part-requires c = let f = rw c.in-Ok-InNight.is at c.in-Ok-InNight.field-0-is in rw (c.in-Ok-InNight.is, f) at c.requires

pub entry_part-requires-in-Ok-InDay : goal.entry_part-requires-in-Ok-InDay
unfolding Inside
entry_part-requires-in-Ok-InDay c = let f = rw c.in-Ok-InDay.is at c.in-Ok-InDay.field-0-is in rw (c.in-Ok-InDay.is, f) at c.requires

pub returns-in-Ok-InNight : goal.returns-in-Ok-InNight
unfolding shown lies_at
returns-in-Ok-InNight c = let f = rw c.in-Ok-InNight.is at c.in-Ok-InNight.field-0-is in rw (c.in-Ok-InNight.is, f) c.entry_part.ensures

pub returns-in-Ok-InDay : goal.returns-in-Ok-InDay
unfolding shown lies_at
returns-in-Ok-InDay c = let f = rw c.in-Ok-InDay.is at c.in-Ok-InDay.field-0-is in rw (c.in-Ok-InDay.is, f) c.entry_part-in-Ok-InDay.ensures

pub returns-in-Err : goal.returns-in-Err
unfolding shown lies_at
returns-in-Err c = rw c.in-Err.is c.empty_part.ensures
