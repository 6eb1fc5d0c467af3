-- A list by its rules has few stations and coordinates in range, as `record_fits_over` asks; the table is that of the list. Assumes nothing.
use Rattle.std.specs.Prelude.{List, ℤ}
use Rattle.std.proofs.Common.{sym, ap, ◌∙◌, subst}
use Rattle.integers.specs.Tables.{Within}
use Rattle.network.specs.Rules.{record_fits, record_fits_over}
use Rattle.network.specs.RuleLaws.{network_few, sound-stations}
use Rattle.book.proofs.rules.Rules.fit.Goals as goal

pub record_fits_over-requires : goal.record_fits_over-requires
record_fits_over-requires c =
    let rules = c.args.self.now in
    (network_few _ rules.network_by_rules, subst (Within 96 500000000) (sym rules.worked_out) (sound-stations _ rules.network_by_rules).provisional)

pub returns : goal.returns
unfolding record_fits
returns c =
    let rules = c.args.self.now in
    c.record_fits_over.ensures ∙ ap (λ (x : List ℤ). record_fits_over rules.network.count x c.args.r) rules.worked_out
