-- By how many numbers were read: none that can be read (`just_none`), another count (`just_other`), or just N (`just_all`). Assumes nothing.
use Rattle.std.proofs.Common.{◌∙◌, arith, rules}
use Rattle.commands.specs.CommandLaws.{just_none, just_other, just_all}
use Rattle.commands.proofs.reading.numbers.Goals as goal

pub returns-in_err-n : goal.returns-in_err-n
returns-in_err-n g c = c.from_residual.ensures ∙ just_none _ _ _ _ _ _ c.read_rest.ensures (omega arith) c.in_err-n.was

pub returns-then-n : goal.returns-then-n
returns-then-n g c = just_all _ _ _ _ _ _ c.read_rest.ensures _ c.in_ok-n.was c.if-n.true (search rules)

pub returns-else-n : goal.returns-else-n
returns-else-n g c = just_other _ _ _ _ _ _ c.read_rest.ensures _ c.in_ok-n.was c.if-n.false
