-- `put_counts` puts the journal's counters. Assumes nothing.
use Prim.Native.Nat.{◌*◌}
use mathlib.Core.Path.{◌∙◌}
use mathlib.Core.List.{[], ◌∷◌}
use mir.Syntax.{w64}
use mir.Facts.{to_z-of_z}
use Rattle.words.specs.Runs.{put_words}
use borrow.Author.Rules.{sfits_of}
use Rattle.layout.specs.Layout.{counts_start}
use Rattle.layout.proofs.writing.put_counts.Goals as goal

pub returns : goal.returns
returns c =
    c.put_pair.ensures
    ∙ (λ i. put_words c.args.s.now (8 * counts_start)
    ((to_z-of_z {w = w64} {z = c.count_word-n.result} (sfits_of c.count_word-n.type_inv) ∙ c.count_word-n.ensures) i
    ∷ (to_z-of_z {w = w64} {z = c.count_word-h.result} (sfits_of c.count_word-h.type_inv) ∙ c.count_word-h.ensures) i ∷ []))
