-- `put_record` puts a record's words. Assumes nothing.
use Prim.Native.Nat.{◌*◌}
use mathlib.Core.Path.{ap, ◌∙◌}
use Rattle.words.specs.Runs.{put_words}
use Rattle.layout.proofs.writing.put_record.Goals as goal

pub returns : goal.returns
returns c = c.write_words.ensures ∙ ap (put_words c.args.s.now (8 * c.args.k)) c.record_words-v.ensures
