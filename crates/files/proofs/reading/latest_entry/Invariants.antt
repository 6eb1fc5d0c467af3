-- `latest_entry`: the latest among the entries not yet passed is the latest of all. Assumes nothing.
use Rattle.std.proofs.Common.{◌≡◌}
use Rattle.files.specs.Files.{latest_entry_to, latest_entry}
use Rattle.files.proofs.reading.latest_entry.Given as goal

abbrev pub invariant-loop-n : goal.invariant-loop-n
invariant-loop-n l = latest_entry_to l.file l.place l.n ≡ latest_entry l.file l.place
