-- `write_words`: what is left to write gives what all of it gave at the start. Assumes nothing.
use Rattle.std.proofs.Common.{ap, ◌∙◌, arith, rules, get_or, pos}
use Rattle.std.specs.Int.{w64}
use Rattle.std.proofs.lemmas.Int.{to_z-of_z}
use Rattle.words.specs.Words.{put_word}
use Rattle.words.proofs.Loops.{write_turn, write_end}
use Rattle.words.proofs.runs.write_words.Goals as goal

pub loop-i-preserved : goal.loop-i-preserved
loop-i-preserved c = (write_turn _ _ _ _ c.loop-i.i c.loop-i.invariant.0 _ (omega arith) (c.put_word.ensures ∙ ap (put_word _ _) (to_z-of_z w64 (get_or c.args.w.now c.loop-i.i (pos 0)) (search rules))), c.put_word.auto.s ∙ c.loop-i.invariant.1)

pub returns : goal.returns
returns c = write_end _ _ _ _ c.loop-i.i c.loop-i.invariant.0 (omega arith)
