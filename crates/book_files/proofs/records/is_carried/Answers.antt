-- By the record, case by case. Assumes nothing.
use Rattle.book_files.specs.Writing.{carried}
use Rattle.book_files.proofs.records.is_carried.Goals as goal

pub returns-in-Empty : goal.returns-in-Empty
unfolding carried
returns-in-Empty c = rw c.in-Empty.is

pub returns-in-Baseline : goal.returns-in-Baseline
unfolding carried
returns-in-Baseline c = rw c.in-Baseline.is c.from_mark_to_mark.ensures

pub returns-in-Height : goal.returns-in-Height
unfolding carried
returns-in-Height c = rw c.in-Height.is

pub returns-in-Position : goal.returns-in-Position
unfolding carried
returns-in-Position c = rw c.in-Position.is
