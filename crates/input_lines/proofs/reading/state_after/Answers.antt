-- By the command: an S line is one more read, an X line gives its count of corrections and an M line that of a matrix. Assumes nothing.
use Rattle.std.proofs.Common.{add-one, inl, inr}
use Rattle.commands.specs.Brings.{brings, how_many}
use Rattle.input_lines.specs.Runs.{read_after}
use Rattle.input_lines.proofs.reading.state_after.Goals as goal

pub returns-in-Station : goal.returns-in-Station
unfolding read_after brings
returns-in-Station c = rw (c.in-Station.is, add-one, add-one)

pub returns-in-Corrections : goal.returns-in-Corrections
unfolding read_after brings how_many
returns-in-Corrections c = rw (c.in-Corrections.is, add-one)

pub returns-in-Matrix : goal.returns-in-Matrix
unfolding read_after brings how_many
returns-in-Matrix c = rw (c.in-Matrix.is, add-one)

pub returns-in-Call : goal.returns-in-Call
unfolding read_after brings
returns-in-Call c = elim c.in-Call.is [ inl e ↦ rw (e.1, add-one) | inr e ↦ rw (e, add-one) ]
