-- The number and 256 times the unknown fit a word, as the caller says. Assumes nothing.
use borrow.Author.Rules.{rules}
use mir.Syntax.{w64}
use mir.Facts.{to_z-of_z}
use Rattle.lent_checks.specs.LentChecks.{answer_word}
use Rattle.lent_checks.proofs.checking.answer_word.Goals as goal

pub returns : goal.returns
unfolding answer_word
returns c = rw (← c.number.ensures, ← c.unknown.ensures) (to_z-of_z {w = w64} (search rules))
