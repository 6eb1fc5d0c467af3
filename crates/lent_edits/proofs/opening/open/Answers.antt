-- `open` writes the opened book, or leaves the bytes where the opening is refused; that the book reads back is the law of an opening. Assumes nothing.
use Rattle.std.proofs.Common.{sym, ap, ◌∙◌, rules}
use Rattle.std.proofs.lemmas.List.{set-get_or}
use Rattle.std.proofs.lemmas.Result.{err_from_is_err_and}
use Rattle.book.specs.Outcome.{Outcome}
use Rattle.book.specs.Refusals.{refused-number}
use Rattle.book.specs.Calls.{unless}
use Rattle.book.specs.CallLaws.{unless_some}
use Rattle.lent_edits.specs.LentEdits.{bytes_left}
use Rattle.lent_edits.specs.LeavesBook.{open_opens}
use Rattle.lent_edits.proofs.opening.open.Goals as goal

pub returns-in_err-book : goal.returns-in_err-book
returns-in_err-book c =
    let p = err_from_is_err_and c.from_residual.result c.from_residual.ensures.1 in
    let e = c.in_err-book.ensures.opened in
    rw (p.1, p.2)
    (open_opens c.args.s.now c.requires c.args.list.now _ _ (ap (λ (x : Outcome). x.refusal) e)
    (search (rules, set-get_or) ∙ sym (unless_some _ c.args.s.now _ (refused-number c.in_err-book.field-0.0)) ∙ ap (bytes_left c.args.s.now) e))

pub returns : goal.returns
unfolding unless
returns c =
    let e = c.in_ok-book.ensures.opened in
    open_opens c.args.s.now c.requires c.args.list.now _ _ (ap (λ (x : Outcome). x.refusal) e) (c.write_book.ensures ∙ ap (bytes_left c.args.s.now) e)
