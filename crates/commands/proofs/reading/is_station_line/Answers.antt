-- The test is of the letter that `letter_at` gives. Assumes nothing.
use Rattle.std.proofs.Common.{arith, ◌∙◌}
use Rattle.commands.specs.CommandLaws.{letter_test}
use Rattle.commands.specs.Commands.{letter_S}
use Rattle.commands.proofs.reading.is_station_line.Goals as goal

pub returns : goal.returns
returns c = c.eq.ensures ∙ letter_test _ c.letter_at.ensures letter_S (omega arith)
