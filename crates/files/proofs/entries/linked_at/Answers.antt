-- `linked_at` tests the sixteen words there. Assumes nothing.
use Rattle.std.proofs.Common.{ap, ◌∙◌}
use Rattle.files.specs.Entries.{linked_entry}
use Rattle.files.specs.Files.{linked_at}
use Rattle.files.proofs.entries.linked_at.Goals as goal

pub returns : goal.returns
unfolding linked_at
returns c = c.linked_entry.ensures ∙ ap (linked_entry c.args.at) c.entry_words-w.ensures
