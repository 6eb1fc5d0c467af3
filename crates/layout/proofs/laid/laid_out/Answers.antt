-- `laid_out` tests the layout part by part. Assumes nothing.
use mathlib.Core.Path.{sym, ◌∙◌}
use mathlib.Core.Bool.{◌&&◌}
use native.Mathlib.Omega.{arith}
use Rattle.words.specs.Words.{Bytes}
use Rattle.words.specs.RunLaws.{length_words, words_fit}
use Rattle.layout.specs.Laid.{parts_laid, laid_parts}
use Rattle.layout.specs.Bytes.{words_of}
use Rattle.layout.specs.Layout.{book_length}
use Rattle.layout.proofs.laid.laid_out.Goals as goal

pub returns : goal.returns
unfolding parts_laid
returns c =
    let s = c.args.s.now in
    let bytes : Bytes s = λ i. let h = c.shared_slice_known-1.given i in omega arith in
    (λ i. c.word_is.ensures i
    && c.stations_laid.ensures i && c.records_laid.ensures i && c.records_laid-2.ensures i)
    ∙ sym (laid_parts (words_of s) (length_words s 0 book_length) (λ i. words_fit s 0 book_length i bytes))
