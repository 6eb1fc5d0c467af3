-- `right_entry`: the thirteen words, and the sum. Assumes nothing.
use Rattle.std.proofs.Common.{◌≡◌, get_or, pos, ap, ◌∙◌, eqb, of_z, w64, rules}
use Rattle.words.specs.Signed.{eq_z}
use Rattle.files.specs.Entries.{right_entry}
use Rattle.files.proofs.Tests.{and_then, and_no}
use Rattle.files.proofs.entries.right_entry.Goals as goal

pub returns-then-right_words : goal.returns-then-right_words
unfolding right_entry
returns-then-right_words c =
    let w = c.args.w.now in
    let same : eqb (of_z w64 (get_or w 15 (pos 0))) (of_z w64 c.sum.result) ≡ eq_z (get_or w 15 (pos 0)) c.sum.result = search rules in
    and_then c.right_words.ensures c.if-right_words.true (same ∙ ap (eq_z (get_or w 15 (pos 0))) c.sum.ensures)

pub returns-else-right_words : goal.returns-else-right_words
unfolding right_entry
returns-else-right_words c = and_no _ c.right_words.ensures c.if-right_words.false
