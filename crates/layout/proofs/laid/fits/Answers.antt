-- `fits` judges bytes: the layout, then the book's rules on the parts that were read, which are those of the book that the bytes hold, then N and u. Assumes nothing.
use mathlib.Core.Path.{◌≡◌, sym, ◌∙◌}
use borrow.Author.Rules.{rules}
use Rattle.normals.specs.Formulas.{normals_of}
use Rattle.normals.specs.Same.{same_normals}
use Rattle.book.specs.declared.Book.{Book}
use Rattle.book.specs.RulesFit.{rules_fit, rules_fail, rules_hold, by_rules}
use Rattle.layout.specs.Layout.{book_in}
use Rattle.layout.specs.Bytes.{book_of}
use Rattle.layout.proofs.Whole.{judged_odd, judged}
use Rattle.layout.proofs.laid.fits.Goals as goal

pub returns-then-not-laid_out : goal.returns-then-not-laid_out
returns-then-not-laid_out c = judged_odd c.args.s.now (sym c.laid_out.ensures ∙ c.if-not-laid_out.true)

pub returns-then-not-rules_fit : goal.returns-then-not-rules_fit
unfolding book_in
returns-then-not-rules_fit c =
    let book : Book = book_of c.args.s.now in
    let rules_told : rules_fit book.network book.places book.journal ≡ c.rules_fit.result = sym (c.rules_fit.ensures ∙ (λ i. rules_fit (c.network_in-network.ensures i) (c.places_in-places.ensures i) book.journal)) in
    judged c.args.s.now _ c.requires (sym c.laid_out.ensures ∙ c.if-not-laid_out.false) (rules_fail book (rules_told ∙ c.if-not-rules_fit.true))

pub normals_fit-requires : goal.normals_fit-requires
normals_fit-requires c = (c.requires, search rules, by_rules _ _ _ (sym c.rules_fit.ensures ∙ c.if-not-rules_fit.false))

pub returns : goal.returns
unfolding book_in
returns c =
    let book : Book = book_of c.args.s.now in
    let rules_told : rules_fit book.network book.places book.journal ≡ c.rules_fit.result = sym (c.rules_fit.ensures ∙ (λ i. rules_fit (c.network_in-network.ensures i) (c.places_in-places.ensures i) book.journal)) in
    judged c.args.s.now _ c.requires (sym c.laid_out.ensures ∙ c.if-not-laid_out.false)
    (c.normals_fit.ensures
    ∙ (λ i. same_normals book.normals (normals_of (c.network_in-network.ensures i).stations (c.places_in-places.ensures i)))
    ∙ rules_hold book (rules_told ∙ c.if-not-rules_fit.false))
