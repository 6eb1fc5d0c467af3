-- The invariant: the count from here, with what is counted so far, is the count of all fields. Assumes nothing.
use Rattle.std.proofs.Common.{◌≡◌, ◌≤◌, length, drop}
use Rattle.text.specs.Fields.{fields_of, numbers_in, at_most, count_of}
use Rattle.text.specs.Reading.{count_after}
use Rattle.text.proofs.fields.count_numbers.Given as goal

abbrev pub invariant-loop-n : goal.invariant-loop-n
invariant-loop-n l = (l.i ≤ length l.s) × (count_after l.n l.most (numbers_in (fields_of (drop l.i l.s))) ≡ count_of (at_most l.most (numbers_in (fields_of l.s))))
