-- `read_words`: the slots passed hold the words passed. Assumes nothing.
use Rattle.std.proofs.Common.{refl, ◌∙◌, arith, rules}
use Rattle.std.specs.Int.{w64}
use Rattle.std.proofs.lemmas.Int.{to_z-of_z}
use Rattle.words.specs.Runs.{words_at}
use Rattle.words.proofs.Loops.{read_turn}
use Rattle.words.proofs.runs.read_words.Goals as goal

pub loop-i-init : goal.loop-i-init
unfolding words_at
loop-i-init c = refl

pub loop-i-preserved : goal.loop-i-preserved
loop-i-preserved c = read_turn _ _ c.loop-i.out c.loop-i.i c.loop-i.invariant _ (omega arith) (to_z-of_z w64 c.word_at.result (search rules) ∙ c.word_at.ensures)
