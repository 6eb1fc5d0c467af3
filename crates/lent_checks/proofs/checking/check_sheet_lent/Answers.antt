-- A pair whose sizes do not fit fails test 1, and so does a sheet without room; else the answer and the words are those of the check with just the room it takes. Assumes nothing.
use mathlib.Core.Path.{◌≡◌, refl, sym, ap, ◌∙◌, subst}
use Prim.Native.Nat.{◌+◌, ◌*◌, ◌≤◌}
use mathlib.Core.Bool.{true, false}
use native.Mathlib.Omega.{arith}
use Rattle.acceptance.specs.Judge.{answer_number, answer_unknown, Answer}
use Rattle.layout.specs.Bytes.{book_of}
use Rattle.layout.specs.CodecLaws.{fits-sound}
use Rattle.checks.specs.Checks.{checked}
use Rattle.lent_checks.specs.LentChecks.{all_words, answer_most, sheet_fits, on_accepted}
use Rattle.lent_checks.specs.CheckLaws.{lent-fit, lent_unfit, lent_roomless, lent-small}
use Rattle.lent_checks.proofs.Answers.{sheet_test, sheet_long}
use Rattle.lent_checks.proofs.checking.check_sheet_lent.Goals as goal

pub returns-then-not-sizes_fit : goal.returns-then-not-sizes_fit
unfolding on_accepted
returns-then-not-sizes_fit c =
    let book = c.args.book.now in
    let b = book_of book in
    record { value = (lent_unfit b (fits-sound book c.requires) c.args.x.now c.args.m.now (sheet_fits b c.args.out.now) (sym c.sizes_fit.ensures ∙ c.if-not-sizes_fit.true), omega arith); out_after = refl }

pub returns-then-not-room_fits : goal.returns-then-not-room_fits
unfolding on_accepted
returns-then-not-room_fits c =
    let b = book_of c.args.book.now in
    let o = c.args.out.now in
    let none : sheet_fits b o ≡ false = sym (sheet_test b o _ _ c.room_in-n.ensures c.room_fits.ensures) ∙ c.if-not-room_fits.true in
    record { value = (lent_roomless b c.args.x.now c.args.m.now (sheet_fits b o) none, omega arith); out_after = refl }

pub sheet_lent-requires : goal.sheet_lent-requires
sheet_lent-requires c = (c.requires, c.room_in-n.ensures, sheet_long c.args.out.now _ (sym c.room_fits.ensures ∙ c.if-not-room_fits.false), sym c.sizes_fit.ensures ∙ c.if-not-sizes_fit.false)

pub returns : goal.returns
returns c =
    let book = c.args.book.now in
    let b = book_of book in
    let x = c.args.x.now in
    let m = c.args.m.now in
    let o = c.args.out.now in
    let fit = sym c.sizes_fit.ensures ∙ c.if-not-sizes_fit.false in
    let yes : sheet_fits b o ≡ true = sym (sheet_test b o _ _ c.room_in-n.ensures c.room_fits.ensures) ∙ c.if-not-room_fits.false in
    let is = c.sheet_lent.ensures.0 ∙ ap (checked b (all_words x) (all_words m)) (sym yes) ∙ lent-fit b x m (sheet_fits b o) fit in
    record { value = (is, subst (λ (a : Answer). answer_number a + 256 * answer_unknown a ≤ answer_most) (sym is) (lent-small b (fits-sound book c.requires) x m (sheet_fits b o))); out_after = c.sheet_lent.ensures.1 }
