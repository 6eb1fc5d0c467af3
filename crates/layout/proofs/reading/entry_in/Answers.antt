-- `entry_in` reads a record. Assumes nothing.
use mathlib.Core.Path.{ap, ◌∙◌}
use mathlib.Core.List.{List}
use lib.IntN.{ℤ}
use Rattle.network.specs.RecordWords.{record_in}
use Rattle.layout.proofs.Parts.{record_is}
use Rattle.layout.proofs.reading.entry_in.Goals as goal

pub returns : goal.returns
returns c = c.record_in.ensures ∙ ap (λ (w : List ℤ). record_in w 0) c.record_at-w.ensures ∙ record_is c.args.s.now c.args.k c.requires.1
