-- Two words, one after the other. Assumes nothing.
use mathlib.Core.Path.{◌∙◌}
use Prim.Native.Nat.{◌+◌, ◌*◌}
use mir.Syntax.{w64}
use mir.Facts.{to_z-of_z}
use Rattle.words.specs.Signed.{signed}
use Rattle.words.specs.Words.{put_word}
use Rattle.salvage.proofs.Written.{pair_put}
use borrow.Author.Rules.{sfits_of}
use Rattle.salvage.proofs.writing.list_pair.Goals as goal

pub returns : goal.returns
returns c =
    let a = to_z-of_z {w = w64} {z = c.to_signed.result} (sfits_of c.to_signed.type_inv) ∙ c.to_signed.ensures in
    let b = to_z-of_z {w = w64} {z = c.to_signed-2.result} (sfits_of c.to_signed-2.type_inv) ∙ c.to_signed-2.ensures in
    let first = c.put_word.ensures ∙ (λ i. put_word c.args.list.now (16 * c.args.i) (a i)) in
    c.put_word-2.ensures
    ∙ (λ i. put_word (first i) (16 * c.args.i + 8) (b i))
    ∙ pair_put c.args.list.now (16 * c.args.i) (signed c.args.a) (signed c.args.b)
