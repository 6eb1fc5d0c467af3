-- `open_list` opens on the words that it has read: its answer is the opening's number. Assumes nothing.
use Rattle.std.proofs.Common.{ap, ◌∙◌, pos, w64, to_z-of_z, ℤ, List}
use borrow.Author.Rules.{sfits_of}
use Rattle.book.specs.Book.{opening}
use Rattle.lent_edits.specs.LentEdits.{bytes_left}
use Rattle.dombrelat.proofs.opening.open_list.Goals as goal

pub returns : goal.returns
returns c =
    let s = c.args.book.now in
    let w = c.call_word in
    let e = c.read_words.ensures in (
      to_z-of_z {w = w64} {z = w.result} (sfits_of w.type_inv) ∙ w.ensures ∙ ap pos c.open.ensures.number ∙ ap (λ (l : List ℤ). pos (opening l).refusal) e,
      c.open.ensures.bytes ∙ ap (λ (l : List ℤ). bytes_left s (opening l)) e,
    )
