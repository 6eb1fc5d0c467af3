-- `holds_file` walks back: the entries not yet passed are linked exactly where the file reads. Assumes nothing.
use Rattle.std.proofs.Common.{◌≡◌}
use Rattle.files.specs.Files.{linked_to, reads}
use Rattle.files.proofs.reading.holds_file.Given as goal

abbrev pub invariant-loop-n : goal.invariant-loop-n
invariant-loop-n l = linked_to l.file l.n ≡ reads l.file
