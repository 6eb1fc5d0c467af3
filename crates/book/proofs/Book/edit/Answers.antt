-- The answer has the number that the table gives for the call (`edit_number`): a refusal leaves the book (`settled-refused`); else what the change puts may be put there
-- (`edit_may_put`), and that, with its reversal on the journal, is the outcome (`edited-is`, `edit_done`). Assumes nothing.
use Rattle.std.proofs.Common.{rules, ◌≡◌, ℕ, ℤ, refl, sym, ap, ◌∙◌, w64, to_z-of_z}
use Rattle.std.proofs.lemmas.Result.{err_from_is_err_and}
use Rattle.words.specs.Signed.{index_in}
use Rattle.lists.specs.Filling.{length_mapped}
use Rattle.network.specs.RuleLaws.{network_few, network-coordinates}
use Rattle.book.specs.declared.Call.TheVariants.{Edit}
use Rattle.book.specs.Calls.{place_of}
use Rattle.book.specs.Refusals.{refusal_no, answer_no, refused-number}
use Rattle.book.specs.Book.{book_says}
use Rattle.book.specs.Sound.{SoundParts}
use Rattle.book.specs.SoundLaws.{edit_may_put}
use Rattle.book.specs.Numbers.{edit_number}
use Rattle.book.proofs.Done.{fresh, fresh-parts, edited-is, settled-refused, edit_done}
use Rattle.book.proofs.Book.edit.Goals as goal
use Rattle.book.proofs.Book.edit.Goals.{After-judge_edit}

parts : (c : After-judge_edit) → SoundParts (fresh c.args.self.now)
parts c = fresh-parts c.args.self.now (search (rules, length_mapped)) (search (rules, length_mapped)) c.requires

at_place : (c : After-judge_edit) → c.index_in-i.result ≡ place_of c.args.place
at_place c = c.index_in-i.ensures ∙ ap (λ (z : ℤ). index_in z 256) (to_z-of_z {w = w64} c.ranges.place)

-- the answer's number is the book's
number : (c : After-judge_edit) → answer_no c.judge_edit.result ≡ book_says c.args.self.now (Edit c.args.place c.args.change)
number c = edit_number (fresh c.args.self.now) (parts c) _ c.args.place _ c.args.change _ _ _ refl (to_z-of_z {w = w64} c.ranges.place) c.index_in-i.ensures c.record_at-current.ensures c.judge_edit.ensures

pub judge_edit-requires : goal.judge_edit-requires
judge_edit-requires c =
    let g = (fresh-parts c.args.self.now (search (rules, length_mapped)) (search (rules, length_mapped)) c.requires).network in
    (network_few _ g, network-coordinates _ g)

pub returns-in_err-judge_edit-clause-outcome : goal.returns-in_err-judge_edit-clause-outcome
returns-in_err-judge_edit-clause-outcome c =
    let b = c.args.self.now in
    let judged = number (goal.at.returns-in_err-judge_edit-clause-outcome c).After-judge_edit in
    let p = err_from_is_err_and c.from_residual.result c.from_residual.ensures.1 in
    let same : answer_no c.from_residual.result ≡ book_says b (Edit c.args.place c.args.change) =
    ap answer_no p.1 ∙ ap refusal_no p.2 ∙ sym (ap answer_no c.in_err-judge_edit.was) ∙ judged in
    settled-refused (book_says b (Edit c.args.place c.args.change)) b _ _ (λ z. refused-number _ (sym (ap answer_no c.in_err-judge_edit.was) ∙ judged ∙ z))
    (ap (λ (n : ℕ). record { refusal = n; book = b }) same)

pub push-longer-requires : goal.push-longer-requires
push-longer-requires c = (parts (goal.at.push-longer-requires c).After-judge_edit).journal.next

pub put-requires : goal.put-requires
put-requires c =
    let j = (goal.at.put-requires c).After-judge_edit in
    let m = edit_may_put c.args.self.now c.args.place c.args.change _ _ (at_place j) c.puts_of-r.ensures (sym (number j) ∙ ap answer_no c.in_ok-judge_edit.was) in
    (m.inside, m.fits, c.requires)

pub returns-clause-outcome : goal.returns-clause-outcome
returns-clause-outcome c =
    let j = (goal.at.returns-clause-outcome c).After-judge_edit in
    (edit_done c.args.self.now c.args.place c.args.change _ _ _ (parts j) (sym (number j) ∙ ap answer_no c.in_ok-judge_edit.was) (at_place j) c.puts_of-r.ensures
    (edited-is c.args.self.now _ _ _ _ _ c.record_at-current.ensures c.push-longer.ensures c.put.ensures)).0

pub returns-clause-sound : goal.returns-clause-sound
returns-clause-sound c =
    let j = (goal.at.returns-clause-sound c).After-judge_edit in
    (edit_done c.args.self.now c.args.place c.args.change _ _ _ (parts j) (sym (number j) ∙ ap answer_no c.in_ok-judge_edit.was) (at_place j) c.puts_of-r.ensures
    (edited-is c.args.self.now _ _ _ _ _ c.record_at-current.ensures c.push-longer.ensures c.put.ensures)).1
