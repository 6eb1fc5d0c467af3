-- `record_at` reads the record's words where its place stands. Assumes nothing.
use mathlib.Core.Path.{sym, ◌∙◌}
use Rattle.network.specs.Places.{record_in_place}
use Rattle.network.proofs.places.record_at.Goals as goal

pub returns : goal.returns
returns c = c.record_in.ensures ∙ sym (record_in_place _ c.args.p c.requires.1)
