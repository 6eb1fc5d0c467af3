-- What the two tests told makes network and places `ByRules`, and N and u worked out from them fit `accept`.
use mathlib.Core.Path.{◌≡◌, sym, ◌∙◌}
use mathlib.Core.Bool.{true}
use borrow.Author.Rules.{rules}
use Rattle.lists.specs.All.{all_at}
use Rattle.network.specs.Stations.{network_fits}
use Rattle.network.specs.Places.{places_in}
use Rattle.network.specs.RuleLaws.{network_few, network-coordinates}
use Rattle.normals.specs.ByRules.{ByRules}
use Rattle.acceptance.specs.Exactly.{book_in_range}
use Rattle.test_acceptance_limits.proofs.print_judged.Goals as goal

pub all_fit-requires : goal.all_fit-requires
all_fit-requires c =
    let fits : network_fits c.args.net ≡ true = sym c.network_fits.ensures ∙ c.if-not-network_fits.false in
    let f = fits in (search rules, network_few _ f, network-coordinates _ f)

pub of-normals-requires : goal.of-normals-requires
of-normals-requires c =
    let fits : network_fits c.args.net ≡ true = sym c.network_fits.ensures ∙ c.if-not-network_fits.false in
    let sound : ByRules c.args.net (places_in c.place_words-w.result) = record { network = fits; each = λ p h. all_at 256 _ p (sym c.all_fit.ensures ∙ c.if-not-all_fit.false) h } in
    (search rules, sound)

pub accept-requires : goal.accept-requires
accept-requires c =
    let fits : network_fits c.args.net ≡ true = sym c.network_fits.ensures ∙ c.if-not-network_fits.false in
    let sound : ByRules c.args.net (places_in c.place_words-w.result) = record { network = fits; each = λ p h. all_at 256 _ p (sym c.all_fit.ensures ∙ c.if-not-all_fit.false) h } in
    (search rules, rw c.of-normals.ensures (book_in_range _ _ sound))
