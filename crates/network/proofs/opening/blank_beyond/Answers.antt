-- The chain over the stations tests each (`all_from_yields_List`), as `all_below` does (`by_range`). Assumes nothing.
use Rattle.std.specs.Prelude.{◌||◌, ltb, ℕ}
use Rattle.std.proofs.Common.{rules, tests, arith}
use Rattle.std.proofs.lemmas.Iterator.{YieldsList-from_range}
use Rattle.std.proofs.lemmas.Iterator.Search.{all_from_yields_List}
use Rattle.network.specs.Stations.{station_at, is_blank, blank_beyond}
use Rattle.network.proofs.Ranged.{by_range}
use Rattle.network.proofs.opening.blank_beyond.Goals as goal

pub returns : goal.returns
unfolding blank_beyond
returns c =
    let test = λ (s : ℕ). ltb s c.args.net.count || is_blank (station_at c.args.net.stations s) in
    by_range test 32 _
    (all_from_yields_List test _ _ _ c.all.ensures.ran (YieldsList-from_range 0 32 32 (cc) (omega arith)) (λ x r q k. search (rules, tests)))
