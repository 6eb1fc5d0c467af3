-- The chain over the components tests each (`all_from_yields_List`), as `all_below` does (`by_range`). Assumes nothing.
use Rattle.std.specs.Prelude.{ℕ}
use Rattle.std.proofs.Common.{rules, tests, arith}
use Rattle.std.proofs.lemmas.Iterator.{YieldsList-from_range}
use Rattle.std.proofs.lemmas.Iterator.Search.{all_from_yields_List}
use Rattle.network.specs.Stations.{coordinate, coordinate_fits, coordinates_fit}
use Rattle.network.proofs.Ranged.{by_range}
use Rattle.network.proofs.opening.coordinates_fit.Goals as goal

pub returns : goal.returns
unfolding coordinates_fit
returns c =
    let test = λ (q : ℕ). coordinate_fits (coordinate c.args.stations q) in
    by_range test 96 _
    (all_from_yields_List test _ _ _ c.all.ensures.ran (YieldsList-from_range 0 96 96 (cc) (omega arith)) (λ x r q k. search (rules, tests)))
