-- By the change: each arm is a case of the definition. Assumes nothing.
use mathlib.Core.Path.{sym, ap}
use Rattle.book.specs.Calls.{puts}
use Rattle.book.proofs.refusals.puts_of.Goals as goal

pub returns-in-Enter : goal.returns-in-Enter
unfolding puts
returns-in-Enter c = ap puts (sym c.in-Enter.is)

pub returns-in-Strike : goal.returns-in-Strike
unfolding puts
returns-in-Strike c = ap puts (sym c.in-Strike.is)
