-- The loop makes the calls of the entries passed (`EnteredSome`). Assumes nothing.
use Rattle.std.proofs.Common.{◌*◌, ap, ◌∙◌, arith, w64, to_z-of_z}
use borrow.Author.Rules.{sfits_of}
use Rattle.words.specs.Words.{put_word}
use Rattle.book_files.specs.Entering.{call_in}
use Rattle.book_files.specs.EnteringLaws.{entered-none, entered-more, entered_all}
use Rattle.book_files.proofs.entering.enter_entries.Goals as goal

pub loop-i-init : goal.loop-i-init
loop-i-init c = entered-none _ _ _ c.requires.0

pub loop-i-preserved : goal.loop-i-preserved
loop-i-preserved c =
    let w = c.call_word in
    let said = to_z-of_z {w = w64} {z = w.result} (sfits_of w.type_inv) ∙ w.ensures in
    entered-more _ _ _ c.loop-i.i c.loop-i-test.true c.loop-i.invariant (c.call_in-call.ensures ∙ ap call_in c.entry_words-w.ensures) c.apply-answer.ensures
    (c.put_word.ensures ∙ ap (put_word c.loop-i.answers (8 * c.loop-i.i)) said)

pub returns : goal.returns
returns c = entered_all _ _ _ (omega arith) c.loop-i.invariant
