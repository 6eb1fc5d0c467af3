-- `is_sound` lends the places of the book as words, which give the places back by the contract of `place_words`; the rules first, then N and u. Assumes nothing.
use mathlib.Core.Path.{◌≡◌, sym, ap, ◌∙◌}
use mathlib.Core.List.{List}
use lib.ListN.{length}
use borrow.Author.Rules.{rules}
use Rattle.network.specs.declared.Place.{Place}
use Rattle.normals.specs.Formulas.{normals_of}
use Rattle.normals.specs.Same.{same_normals}
use Rattle.book.specs.declared.Book.{Book}
use Rattle.book.specs.RulesFit.{rules_fit, rules_fail, rules_hold, by_rules}
use Rattle.book.proofs.soundness.is_sound.Goals as goal

pub returns-else-rules_fit : goal.returns-else-rules_fit
returns-else-rules_fit c =
    let book : Book = c.args.book in
    let rules_told : rules_fit book.network book.places book.journal ≡ c.rules_fit.result = sym (c.rules_fit.ensures ∙ ap (λ (l : List Place). rules_fit book.network l book.journal) c.place_words-places.ensures) in
    c.if-rules_fit.false ∙ rules_fail book (rules_told ∙ c.if-rules_fit.false)

pub are_of-requires : goal.are_of-requires
are_of-requires c =
    let book : Book = c.args.book in
    let rules_told : rules_fit book.network book.places book.journal ≡ c.rules_fit.result = sym (c.rules_fit.ensures ∙ ap (λ (l : List Place). rules_fit book.network l book.journal) c.place_words-places.ensures) in
    let lengths : (length c.args.book.normals.matrix ≡ 2304) × (length c.args.book.normals.right ≡ 48) = search rules in
    (search rules, by_rules c.args.book.network _ c.args.book.journal (sym c.rules_fit.ensures ∙ c.if-rules_fit.true), lengths.0, lengths.1)

pub returns-then-rules_fit : goal.returns-then-rules_fit
returns-then-rules_fit c =
    let book : Book = c.args.book in
    let rules_told : rules_fit book.network book.places book.journal ≡ c.rules_fit.result = sym (c.rules_fit.ensures ∙ ap (λ (l : List Place). rules_fit book.network l book.journal) c.place_words-places.ensures) in
    let b = book in
    c.are_of.ensures
    ∙ ap (λ (l : List Place). same_normals b.normals (normals_of b.network.stations l)) c.place_words-places.ensures
    ∙ rules_hold b (rules_told ∙ c.if-rules_fit.true)
