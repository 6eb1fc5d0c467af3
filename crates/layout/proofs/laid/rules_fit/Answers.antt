-- `rules_fit` reads the journal, and the book's rules judge it with the network and the places. Assumes nothing.
use mathlib.Core.Path.{ap, ◌∙◌}
use Rattle.network.specs.Places.{places_in}
use Rattle.book.specs.RulesFit.{rules_fit}
use Rattle.layout.proofs.laid.rules_fit.Goals as goal

pub returns : goal.returns
returns c = c.rules_fit.ensures ∙ ap (rules_fit c.args.net (places_in c.args.places.now)) c.journal_in-journal.ensures
