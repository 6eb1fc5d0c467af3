-- Bytes that hold no book are answered with 25; else the answer is that of the book that they hold, as the call's word. Assumes nothing.
use mathlib.Core.Path.{◌≡◌, refl, sym, ◌∙◌}
use mathlib.Core.Bool.{true}
use mir.Syntax.{w64}
use mir.Facts.{to_z-of_z}
use Rattle.words.specs.Bools.{clash}
use Rattle.layout.specs.Bytes.{bytes_fit}
use Rattle.dombrelat.proofs.Offered.{proposed}
use borrow.Author.Rules.{sfits_of}
use Rattle.dombrelat.proofs.proposing.dombrelat_propose.Goals as goal

pub returns-then-not-holds_book : goal.returns-then-not-holds_book
returns-then-not-holds_book c =
    record { unfit = λ e. (refl, refl, refl); fit = λ e. clash e (sym c.holds_book.ensures ∙ c.if-not-holds_book.true) }

pub propose_lent-requires : goal.propose_lent-requires
propose_lent-requires c =
    let fit : bytes_fit c.args.book.now ≡ true = sym c.holds_book.ensures ∙ c.if-not-holds_book.false in
    fit

pub returns : goal.returns
returns c =
    let fit : bytes_fit c.args.book.now ≡ true = sym c.holds_book.ensures ∙ c.if-not-holds_book.false in
    let w = c.proposal_word in
    proposed _ w.result _ _ _ _ _ fit (to_z-of_z {w = w64} {z = w.result} (sfits_of w.type_inv)) (rw w.ensures c.propose_lent.ensures)
