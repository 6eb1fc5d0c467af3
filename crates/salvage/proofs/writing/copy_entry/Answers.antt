-- The thirteen words written are those read. Assumes nothing.
use mathlib.Core.Path.{ap, ◌∙◌}
use mathlib.Core.List.{List}
use lib.ListN.{take}
use lib.IntN.{ℤ}
use Rattle.words.specs.Runs.{put_words}
use Rattle.files.specs.BytesLaws.{words_take}
use Rattle.files.specs.Entries.{entry_words}
use Rattle.salvage.proofs.writing.copy_entry.Goals as goal

pub returns : goal.returns
returns c =
    c.write_entry.ensures
    ∙ ap (λ (w : List ℤ). put_words c.args.fresh.now c.args.start (entry_words c.args.start w))
    (ap (take 13) c.entry_words-w.ensures ∙ words_take c.args.file.now c.args.at 13 3)
