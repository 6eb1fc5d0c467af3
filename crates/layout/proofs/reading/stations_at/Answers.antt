-- `stations_at` reads the station list's words. Assumes nothing.
use mathlib.Core.Path.{sym, ◌∙◌}
use native.Mathlib.Omega.{arith}
use Rattle.layout.specs.RunPatches.{part_at}
use Rattle.layout.specs.Layout.{book_length, stations_start}
use Rattle.layout.proofs.reading.stations_at.Goals as goal

pub returns : goal.returns
returns c = c.words_in.ensures ∙ sym (part_at c.args.s.now 0 book_length stations_start 128 (omega arith))
