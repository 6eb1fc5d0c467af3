-- `read_words`: the slots passed hold the words passed. Assumes nothing.
use Rattle.std.proofs.Common.{◌≡◌, take}
use Rattle.words.specs.Runs.{words_at}
use Rattle.words.proofs.runs.read_words.Given as goal

abbrev pub invariant-loop-i : goal.invariant-loop-i
invariant-loop-i l = take l.i l.out ≡ words_at l.s l.at l.i
