-- By the command: an S line notes its station, and any other leaves the words (`words_other`). Assumes nothing.
use Rattle.input_lines.specs.Runs.{words_after}
use Rattle.input_lines.proofs.Arms.{words_other}
use Rattle.input_lines.proofs.reading.note_words.Goals as goal

pub returns-in-Station : goal.returns-in-Station
unfolding words_after
returns-in-Station c = let n = c.note_station.ensures in record { leaves = rw c.in-Station.is n.leaves; few = n.few }

pub returns-in_default : goal.returns-in_default
returns-in_default c = record { leaves = words_other _ c.args.command c.in_default.not-Station; few = c.requires.1 }
