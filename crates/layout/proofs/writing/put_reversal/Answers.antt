-- `put_reversal` puts a slot's words. Assumes nothing.
use Prim.Native.Nat.{ℕ, ◌+◌, ◌*◌}
use mathlib.Core.Path.{◌≡◌, ap, ◌∙◌}
use mathlib.Core.List.{List}
use native.Mathlib.Omega.{arith}
use mir.Syntax.{w64}
use mir.Facts.{to_z-of_z}
use Rattle.words.specs.Words.{put_word}
use Rattle.words.specs.Runs.{put_words}
use Rattle.network.specs.RecordWords.{record_words}
use Rattle.layout.specs.Layout.{reversal_words}
use borrow.Author.Rules.{sfits_of}
use Rattle.layout.proofs.writing.put_reversal.Goals as goal

pub returns : goal.returns
unfolding reversal_words put_words
returns c =
    let k = c.args.k in
    let here : 8 * (k + 1) ≡ 8 * k + 8 = omega arith in
    let place = to_z-of_z {w = w64} {z = c.count_word-place.result} (sfits_of c.count_word-place.type_inv) ∙ c.count_word-place.ensures in
    c.put_record.ensures
    ∙ ap (λ (x : List ℕ). put_words x (8 * (k + 1)) (record_words c.args.u.prior)) c.put_word.ensures
    ∙ (λ i. put_words (put_word c.args.s.now (8 * k) (place i)) (here i) (record_words c.args.u.prior))
