-- Just three numbers (`of_these`), or none (`of_none`). Assumes nothing.
use Rattle.std.proofs.Common.{◌∙◌, sym, ap, ℕ, Option, pos, get_or, rules}
use Rattle.std.specs.Option.{unwrap_or}
use Rattle.commands.specs.CommandLaws.{of_none, of_these, station-bits}
use Rattle.commands.specs.declared.Command.{Command}
use Rattle.commands.specs.declared.Command.TheVariants.{Unreadable}
use Rattle.commands.specs.Commands.{station_with}
use Rattle.commands.proofs.reading.station_with.Goals as goal

pub returns-in_err-east : goal.returns-in_err-east
returns-in_err-east c = ap (λ (o : Option Command). unwrap_or o Unreadable) c.from_residual.ensures ∙ of_none 3 _ (station_with _) _ (sym c.numbers.ensures ∙ c.in_err-east.was)

pub returns : goal.returns
returns c =
    station-bits _ (λ (i : ℕ). get_or c.in_ok-east.field-0 i (pos 0)) (search rules) (search rules) (search rules)
    ∙ of_these 3 _ (station_with _) _ _ (sym c.numbers.ensures ∙ c.in_ok-east.was)
