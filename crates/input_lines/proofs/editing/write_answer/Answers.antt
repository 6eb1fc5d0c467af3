-- By the command: an unreadable line has its own message, and any other that of its refusal (`says_other`). Assumes nothing.
use native.Mathlib.Omega.{arith}
use Rattle.text.specs.Writing.{written_as}
use Rattle.input_lines.specs.Runs.{command_says}
use Rattle.input_lines.proofs.Arms.{says_other}
use Rattle.input_lines.proofs.editing.write_answer.Goals as goal

pub returns-in-Unreadable : goal.returns-in-Unreadable
unfolding command_says
returns-in-Unreadable c = record { written = rw c.in-Unreadable.is c.write_unreadable_line.ensures.written; upper_bound = omega (arith, c.write_unreadable_line.ensures.upper_bound) }

pub returns-in_default : goal.returns-in_default
returns-in_default c = record { written = written_as (says_other c.args.k _ c.args.command c.in_default.not-Unreadable) c.write_refusal.ensures.written; upper_bound = c.write_refusal.ensures.upper_bound }
