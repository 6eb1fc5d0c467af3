-- The heights and the observed difference of a baseline in range are as small as `reduced_up` asks (`baseline_range`). Assumes nothing.
use Rattle.std.specs.Prelude.{◌≡◌, true}
use Rattle.std.proofs.Common.{subst}
use Rattle.network.specs.declared.Record.{Record}
use Rattle.network.specs.Rules.{in_range}
use Rattle.network.specs.Ranges.{baseline_range}
use Rattle.network.proofs.records.reduced_of.Goals as goal

pub reduced_up-up-requires : goal.reduced_up-up-requires
unfolding in_range
reduced_up-up-requires c =
    let v = baseline_range _ (subst (λ (r : Record). in_range r ≡ true) c.in-Baseline.is c.requires) in
    (v.up, v.hf, v.ht)
