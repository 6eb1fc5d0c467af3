-- A line that was cut asks nothing (`obeys_cut`); of any other, what `command_in` says. Assumes nothing.
use Rattle.std.proofs.Common.{refl}
use Rattle.commands.specs.CommandLaws.{obeys_cut}
use Rattle.commands.proofs.reading.read_command.Goals as goal

pub returns-then-over : goal.returns-then-over
returns-then-over c = obeys_cut _ _ _ _ _ _ _ c.if-over.true refl

pub returns : goal.returns
returns c = rw (c.unwrap_or.ensures, c.if-over.false) c.command_in.ensures
