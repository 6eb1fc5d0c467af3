-- Two words, one after the other. Assumes nothing.
use mathlib.Core.Path.{refl, ap, ◌∙◌}
use mir.Syntax.{w64}
use mir.Facts.{to_z-of_z}
use Rattle.words.specs.Signed.{signed}
use Rattle.words.specs.Words.{put_word}
use Rattle.dombrelat.proofs.Filings.{put_both}
use borrow.Author.Rules.{sfits_of}
use Rattle.dombrelat.proofs.filing.put_found.Goals as goal

pub returns : goal.returns
returns c =
    let first = c.put_word.ensures ∙ ap (put_word c.args.out.now 0) (to_z-of_z {w = w64} c.ranges.file) in
    let second = to_z-of_z {w = w64} {z = c.to_signed.result} (sfits_of c.to_signed.type_inv) ∙ c.to_signed.ensures in
    (refl, c.put_word-2.ensures ∙ (λ i. put_word (first i) 8 (second i)) ∙ put_both c.args.out.now c.args.file (signed c.args.at))
