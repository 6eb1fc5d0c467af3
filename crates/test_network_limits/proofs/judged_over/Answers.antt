-- A network that passed the test has few stations and coordinates in range, as `judge_record` asks. Assumes nothing.
use mathlib.Core.Path.{sym, ◌∙◌}
use Rattle.network.specs.RuleLaws.{network_few, network-coordinates}
use Rattle.test_network_limits.proofs.judged_over.Goals as goal

pub judge_record-requires : goal.judge_record-requires
judge_record-requires c =
    let n = c.args.net in
    let e = sym c.network_fits.ensures ∙ c.if-not-network_fits.false in
    (network_few n e, network-coordinates n e)
