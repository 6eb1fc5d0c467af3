-- Three texts one after the other; the room is their lengths together. Assumes nothing.
use Rattle.printing.specs.Messages.{refused_text}
use Rattle.text.specs.Writing.{◌then◌}
use native.Mathlib.Omega.{arith}
use Rattle.printing.proofs.messages.write_refused.Goals as goal

pub returns : goal.returns
unfolding refused_text
returns c = record { written = c.write_text-a.ensures then c.write_natural-b.ensures.written then c.write_byte.ensures; upper_bound = omega (arith, c.write_text-a.ensures.past, c.write_natural-b.ensures.upper_bound, c.write_byte.ensures.past) }
