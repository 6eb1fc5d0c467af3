-- An entry is an enter (`entered_of`), and none is no command (`entered-none`). Assumes nothing.
use Rattle.std.proofs.Common.{sym, ap, ◌∙◌, Option, rules, w64, to_z-of_z}
use Rattle.std.specs.Option.{unwrap_or}
use Rattle.commands.specs.CommandLaws.{entered_of, entered-none}
use Rattle.commands.specs.declared.Command.{Command}
use Rattle.commands.specs.declared.Command.TheVariants.{Unreadable}
use Rattle.commands.proofs.reading.record_line.Goals as goal

pub returns-in_err-place : goal.returns-in_err-place
returns-in_err-place c = ap (λ (o : Option Command). unwrap_or o Unreadable) c.from_residual.ensures ∙ entered-none _ (sym c.entry_at.ensures ∙ c.in_err-place.was)

pub returns : goal.returns
returns c = entered_of _ _ _ _ (sym c.entry_at.ensures ∙ c.in_ok-place.was) (to_z-of_z {w = w64} (search rules))
