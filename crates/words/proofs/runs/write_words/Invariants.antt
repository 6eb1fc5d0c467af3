-- `write_words`: what is left to write gives what all of it gave at the start. Assumes nothing.
use Rattle.std.proofs.Common.{◌≡◌, ◌+◌, ◌*◌, length, drop}
use Rattle.words.specs.Runs.{put_words}
use Rattle.words.proofs.runs.write_words.Given as goal

abbrev pub invariant-loop-i : goal.invariant-loop-i
invariant-loop-i l = (put_words l.s (l.at + 8 * l.i) (drop l.i l.w) ≡ put_words l.initial.s l.at l.w) × (length l.s ≡ length l.initial.s)
