-- `write_entry` writes what `with_trailer` gives. Assumes nothing.
use Rattle.std.proofs.Common.{ap, ◌∙◌}
use Rattle.words.specs.Runs.{put_words}
use Rattle.files.proofs.writing.write_entry.Goals as goal

pub returns : goal.returns
returns c = c.write_words.ensures ∙ ap (put_words c.args.file.now c.args.start) c.with_trailer-v.ensures
