-- The invariant: what is stored from here on, over what is stored so far, is what all leading numbers leave. Assumes nothing.
use Rattle.std.proofs.Common.{◌≡◌, ◌≤◌, ◌-◌, length, drop}
use Rattle.std.proofs.lemmas.List.Edits.{sets}
use Rattle.text.specs.Fields.{fields_of}
use Rattle.text.specs.Reading.{leading}
use Rattle.text.proofs.fields.fill_numbers.Given as goal

abbrev pub invariant-loop-x : goal.invariant-loop-x
invariant-loop-x l =
    (l.i ≤ length l.s)
    × (sets l.out l.x-index (leading (length l.initial.out - l.x-index) (fields_of (drop l.i l.s))) ≡ sets l.initial.out 0 (leading (length l.initial.out) (fields_of l.s)))
