-- Five texts one after the other; the room is their lengths together. Assumes nothing.
use Rattle.printing.specs.Messages.{refused_line}
use Rattle.text.specs.Writing.{◌then◌}
use native.Mathlib.Omega.{arith}
use Rattle.printing.proofs.messages.write_refused_line.Goals as goal

pub returns : goal.returns
unfolding refused_line
returns c = record { written = c.write_text-a.ensures then c.write_natural-b.ensures.written then c.write_text-c.ensures then c.write_natural-d.ensures.written then c.write_byte.ensures; upper_bound = omega (arith, c.write_text-a.ensures.past, c.write_natural-b.ensures.upper_bound, c.write_text-c.ensures.past, c.write_natural-d.ensures.upper_bound, c.write_byte.ensures.past) }
