-- `word_in` reads one word. Assumes nothing.
use mathlib.Core.Path.{◌∙◌}
use mir.Syntax.{w64}
use mir.Facts.{to_z-of_z}
use Rattle.layout.proofs.Parts.{word-is}
use borrow.Author.Rules.{sfits_of}
use Rattle.layout.proofs.reading.word_in.Goals as goal

pub returns : goal.returns
returns c = to_z-of_z {w = w64} {z = c.word_at.result} (sfits_of c.word_at.type_inv) ∙ c.word_at.ensures ∙ word-is c.args.s.now c.args.k c.requires.1
