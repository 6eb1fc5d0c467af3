-- Ends in the list and values in range give what the last test asks (`judged-observed`). Assumes nothing.
use Rattle.std.specs.Prelude.{◌≡◌, true}
use Rattle.std.proofs.Common.{sym, ◌∙◌}
use Rattle.network.specs.Rules.{record_ends_fit, in_range}
use Rattle.network.specs.RuleLaws.{judged-observed}
use Rattle.network.proofs.rules.judge_record_over.Goals as goal

pub misclosure_fits-requires : goal.misclosure_fits-requires
misclosure_fits-requires c =
    let ends : record_ends_fit c.args.count c.args.r ≡ true = sym c.record_ends_fit.ensures ∙ c.if-not-record_ends_fit.false in
    let range : in_range c.args.r ≡ true = sym c.in_range.ensures ∙ c.if-not-in_range.false in
    judged-observed c.args.count c.args.coordinate.now c.requires.0 c.requires.1 c.args.r ends range
