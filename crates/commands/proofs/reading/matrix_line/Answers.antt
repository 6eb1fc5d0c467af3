-- By what the fields give: nothing (`counted_none`), or so many numbers (`counted_some`); they are stored as `read_rest` stores them. Assumes nothing.
use Rattle.std.proofs.Common.{ap, ◌∙◌, Option}
use Rattle.std.specs.Option.{unwrap_or}
use Rattle.commands.specs.CommandLaws.{counted_none, counted_some}
use Rattle.commands.specs.declared.Command.{Command}
use Rattle.commands.specs.declared.Command.TheVariants.{Unreadable, Matrix}
use Rattle.commands.proofs.reading.matrix_line.Goals as goal

pub returns-in_err-n : goal.returns-in_err-n
returns-in_err-n c = (ap (λ (o : Option Command). unwrap_or o Unreadable) c.from_residual.ensures ∙ counted_none Matrix _ _ c.read_rest.ensures.counts c.in_err-n.was, c.read_rest.ensures.stores)

pub returns : goal.returns
returns c = (counted_some Matrix _ _ c.read_rest.ensures.counts _ c.in_ok-n.was, c.read_rest.ensures.stores)
