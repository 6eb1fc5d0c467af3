-- `edit_bytes` answers 25 before all others, and else the number of the call on the bytes. Assumes nothing.
use Rattle.std.proofs.Common.{refl, sym, ap, ◌∙◌, pos, w64, to_z-of_z}
use borrow.Author.Rules.{sfits_of}
use Rattle.book.specs.Book.{outcome}
use Rattle.layout.specs.Bytes.{book_of}
use Rattle.dombrelat.specs.Calls.{Returned}
use Rattle.dombrelat.proofs.Lent.{through_unfit, through-fit}
use Rattle.dombrelat.proofs.edits.edit_bytes.Goals as goal

pub returns-then-not-holds_book : goal.returns-then-not-holds_book
returns-then-not-holds_book c =
    let s = c.args.book.now in
    let e = through_unfit s _ (sym c.holds_book.ensures ∙ c.if-not-holds_book.true) in
    (ap (λ (r : Returned). r.answer) e, ap (λ (r : Returned). r.bytes) e)

pub apply-requires : goal.apply-requires
apply-requires c = sym c.holds_book.ensures ∙ c.if-not-holds_book.false

pub returns : goal.returns
returns c =
    let t = c.args.book.now in
    let w = c.call_word in
    let e = through-fit t (λ b. outcome b c.args.call) (book_of t) (outcome (book_of t) c.args.call) (sym c.holds_book.ensures ∙ c.if-not-holds_book.false) refl refl in
    (to_z-of_z {w = w64} {z = w.result} (sfits_of w.type_inv) ∙ w.ensures ∙ ap pos c.apply.ensures.number ∙ ap (λ (r : Returned). r.answer) e, c.apply.ensures.bytes ∙ ap (λ (r : Returned). r.bytes) e)
