-- `change_place` edits in place, or is refused. Assumes nothing.
use Rattle.std.proofs.Common.{◌≡◌, ℤ, sym, ap, ◌∙◌, w64, to_z-of_z}
use Rattle.std.proofs.lemmas.Result.{err_from_is_err_and}
use Rattle.words.specs.Signed.{index_in}
use Rattle.book.specs.declared.Call.TheVariants.{Edit}
use Rattle.book.specs.Calls.{place_of}
use Rattle.book.specs.Book.{book_says}
use Rattle.book.specs.Refusals.{refusal_no, answer_no, refused-number}
use Rattle.book.specs.Numbers.{edit_number}
use Rattle.book.specs.SoundLaws.{edit_may_put}
use Rattle.layout.specs.Bytes.{book_of}
use Rattle.layout.specs.CodecLaws.{fits-room, fits-sound, fits-network}
use Rattle.lent_edits.proofs.Changed.{edit_refused, edit_changed}
use Rattle.lent_edits.proofs.changes.change_place.Goals as goal
use Rattle.lent_edits.proofs.changes.change_place.Goals.{After-judge_edit}

at_place : (c : After-judge_edit) → c.index_in-i.result ≡ place_of c.args.place
at_place c = c.index_in-i.ensures ∙ ap (λ (z : ℤ). index_in z 256) (to_z-of_z {w = w64} c.ranges.place)

-- the answer's number is the book's
number : (c : After-judge_edit) → answer_no c.judge_edit.result ≡ book_says (book_of c.args.s.now) (Edit c.args.place c.args.change)
number c =
    let t = c.args.s.now in
    edit_number (book_of t) (fits-sound t c.requires) _ c.args.place _ c.args.change _ _ _ c.network_in-net.ensures (to_z-of_z {w = w64} c.ranges.place) c.index_in-i.ensures c.record_in.ensures c.judge_edit.ensures

pub network_in-net-requires : goal.network_in-net-requires
network_in-net-requires c = fits-room c.args.s.now c.requires

pub record_in-requires : goal.record_in-requires
record_in-requires c = fits-room c.args.s.now c.requires

pub judge_edit-requires : goal.judge_edit-requires
judge_edit-requires c = fits-network c.args.s.now c.requires _ c.network_in-net.ensures

pub returns-in_err-judge_edit : goal.returns-in_err-judge_edit
returns-in_err-judge_edit c =
    let j = (goal.at.returns-in_err-judge_edit c).After-judge_edit in
    let p = err_from_is_err_and c.from_residual.result c.from_residual.ensures.1 in
    let same : answer_no c.from_residual.result ≡ book_says (book_of c.args.s.now) (Edit c.args.place c.args.change) =
    ap answer_no p.1 ∙ ap refusal_no p.2 ∙ sym (ap answer_no c.in_err-judge_edit.was) ∙ number j in
    edit_refused c.args.s.now (book_of c.args.s.now) (Edit c.args.place c.args.change) _ same (λ z. refused-number _ (sym (ap answer_no c.in_err-judge_edit.was) ∙ number j ∙ z))

pub make_edit-requires : goal.make_edit-requires
make_edit-requires c =
    let j = (goal.at.make_edit-requires c).After-judge_edit in
    (c.requires, c.network_in-net.ensures, edit_may_put _ c.args.place c.args.change _ _ (at_place j) c.puts_of.ensures (sym (number j) ∙ ap answer_no c.in_ok-judge_edit.was))

pub returns : goal.returns
returns c =
    let j = (goal.at.returns c).After-judge_edit in
    edit_changed c.args.s.now (book_of c.args.s.now) c.args.place c.args.change _ _ _ (sym (number j) ∙ ap answer_no c.in_ok-judge_edit.was) (at_place j) c.puts_of.ensures c.make_edit.ensures
