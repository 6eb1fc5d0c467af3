-- Just one number (`of_these`), or none (`of_none`). Assumes nothing.
use Rattle.std.proofs.Common.{◌∙◌, sym, ap, ℤ, Option, rules, w64, to_z-of_z}
use Rattle.std.specs.Option.{unwrap_or}
use Rattle.commands.specs.CommandLaws.{of_none, of_these}
use Rattle.commands.specs.declared.Command.{Command}
use Rattle.commands.specs.declared.Command.TheVariants.{Unreadable, Call}
use Rattle.book.specs.declared.Call.TheVariants.{Edit}
use Rattle.book.specs.declared.Change.TheVariants.{Strike}
use Rattle.commands.specs.Commands.{strike_of}
use Rattle.commands.proofs.reading.strike_line.Goals as goal

pub returns-in_err-place : goal.returns-in_err-place
returns-in_err-place c = ap (λ (o : Option Command). unwrap_or o Unreadable) c.from_residual.ensures ∙ of_none 1 _ strike_of _ (sym c.numbers.ensures ∙ c.in_err-place.was)

pub returns : goal.returns
returns c = ap (λ (v : ℤ). Call (Edit v Strike)) (to_z-of_z {w = w64} (search rules)) ∙ of_these 1 _ strike_of _ _ (sym c.numbers.ensures ∙ c.in_ok-place.was)
