-- A first word that is no kind tells that there is no entry; any other asks for all sixteen. Assumes nothing.
use Rattle.std.proofs.Common.{◌≡◌, sym, ap, ◌∙◌, to_z-of_z, w64}
use Rattle.std.specs.Result.{is_err}
use Rattle.words.specs.Words.{word_at}
use Rattle.files.specs.Entries.{right_entry}
use Rattle.files.specs.Kinds.{kind_of}
use Rattle.files.specs.Files.{right_at}
use Rattle.salvage.proofs.FirstWord.{wrong_at}
use borrow.Author.Rules.{sfits_of}
use Rattle.salvage.proofs.scanning.right_at.Goals as goal

pub returns-then-is_err : goal.returns-then-is_err
returns-then-is_err c =
    let word : c.try_from-kind.result ≡ kind_of (word_at c.args.file.now c.args.at) = c.try_from-kind.ensures
    ∙ ap kind_of (to_z-of_z {w = w64} {z = c.word_at.result} (sfits_of c.word_at.type_inv) ∙ c.word_at.ensures) in
    wrong_at c.args.file.now c.args.at (sym (ap is_err word) ∙ sym c.is_err.ensures.value ∙ c.if-is_err.true)

pub returns : goal.returns
unfolding right_at
returns c = c.right_entry.ensures ∙ ap right_entry c.entry_words-w.ensures
