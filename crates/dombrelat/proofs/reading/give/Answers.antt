-- By the room: 10 and the bytes as they came (`gives_none`), or the words written and the number (`gives_all`). Assumes nothing.
use mathlib.Core.Path.{refl, ◌∙◌}
use mir.Syntax.{w64}
use mir.Facts.{to_z-of_z}
use Rattle.dombrelat.proofs.Readings.{gives_none, gives_all, both}
use borrow.Author.Rules.{sfits_of}
use Rattle.dombrelat.proofs.reading.give.Goals as goal

pub returns-then-out-w : goal.returns-then-out-w
returns-then-out-w c = both _ _ _ _ (gives_none _ _ _ c.if-out-w.true) (refl, refl)

pub returns : goal.returns
returns c =
    let n = c.numbered_word in
    both _ _ _ _ (gives_all _ _ _ c.if-out-w.false) (to_z-of_z {w = w64} {z = n.result} (sfits_of n.type_inv) ∙ n.ensures, c.write_words.ensures)
