-- `put_pair` puts two words. Assumes nothing.
use Prim.Native.Nat.{ℕ, ◌+◌, ◌*◌}
use mathlib.Core.Path.{ap, ◌∙◌}
use mathlib.Core.List.{List}
use mir.Syntax.{w64}
use mir.Val.{to_z, of_z}
use mir.Facts.{to_z-of_z}
use Rattle.words.specs.Words.{put_word}
use Rattle.words.specs.Runs.{put_words}
use Rattle.layout.proofs.writing.put_pair.Goals as goal

pub returns : goal.returns
unfolding put_words
returns c =
    let at = 8 * c.args.k in
    let t = c.args.s.now in
    c.put_word-2.ensures
    ∙ ap (λ (x : List ℕ). put_word x (at + 8) (to_z w64 (of_z w64 c.args.b))) c.put_word.ensures
    ∙ (λ i. put_word (put_word t at (to_z-of_z {w = w64} c.ranges.a i)) (at + 8) (to_z-of_z {w = w64} c.ranges.b i))
