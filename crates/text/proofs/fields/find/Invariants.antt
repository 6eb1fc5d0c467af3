-- The invariant: where the byte is found from here is where it is found from the start. Assumes nothing.
use Rattle.std.proofs.Common.{◌≡◌, ◌+◌, length, drop}
use Rattle.text.specs.Before.{before}
use Rattle.text.proofs.fields.find.Given as goal

abbrev pub invariant-loop-i : goal.invariant-loop-i
invariant-loop-i l = l.i + length (before l.b (drop l.i l.s)) ≡ l.from + length (before l.b (drop l.from l.s))
