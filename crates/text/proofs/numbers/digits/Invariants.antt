-- The invariant: the digits from here, after the value so far, say what all of them say; the value is at most the cut. Assumes nothing.
use Rattle.std.proofs.Common.{◌≡◌, ◌≤◌, drop}
use Rattle.text.specs.Digits.{cut_to, digits_after, digits_of}
use Rattle.text.proofs.numbers.digits.Given as goal

abbrev pub invariant-loop-c : goal.invariant-loop-c
invariant-loop-c l = (digits_after l.n (drop l.c-index l.s) ≡ digits_of l.s) × (l.n ≤ cut_to)
