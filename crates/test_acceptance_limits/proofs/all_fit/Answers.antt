-- The chain over the places tests each record (`all_from_yields_List`), as `all_below` does (`by_range`). Assumes nothing.
use Rattle.std.specs.Prelude.{ℕ}
use Rattle.std.proofs.Common.{rules, tests, arith}
use Rattle.std.proofs.lemmas.Iterator.{YieldsList-from_range}
use Rattle.std.proofs.lemmas.Iterator.Search.{all_from_yields_List}
use Rattle.network.specs.Records.{record_at}
use Rattle.network.specs.Places.{places_in}
use Rattle.network.specs.Rules.{record_fits}
use Rattle.network.proofs.Ranged.{by_range}
use Rattle.test_acceptance_limits.proofs.all_fit.Goals as goal

pub returns : goal.returns
returns c =
    let test = λ (p : ℕ). record_fits c.args.net (record_at (places_in c.args.places.now) p) in
    by_range test 256 _
    (all_from_yields_List test _ _ _ c.all.ensures.ran (YieldsList-from_range 0 256 256 (cc) (omega arith)) (λ x r q k. search (rules, tests)))
