-- The chain over the stations tests each (`all_from_yields_List`), as `all_below` does (`by_range`). Assumes nothing.
use Rattle.std.specs.Prelude.{◌*◌, ◌/◌, length, get_or, pos, ℕ}
use Rattle.std.proofs.Common.{rules, tests, arith}
use Rattle.std.proofs.lemmas.Iterator.{YieldsList-from_range}
use Rattle.std.proofs.lemmas.Iterator.Search.{all_from_yields_List}
use Rattle.network.specs.Stations.{is_kind, kinds_fit}
use Rattle.network.proofs.Ranged.{by_range}
use Rattle.network.proofs.opening.kinds_fit.Goals as goal

pub returns : goal.returns
unfolding kinds_fit
returns c =
    let test = λ (s : ℕ). is_kind (get_or c.args.list.now (s * 4) (pos 0)) in
    by_range test (length c.args.list.now / 4) _
    (all_from_yields_List test _ _ _ c.all.ensures.ran (YieldsList-from_range 0 (length c.args.list.now / 4) (length c.args.list.now / 4) (cc) (omega arith)) (λ x r q k. search (rules, tests)))
