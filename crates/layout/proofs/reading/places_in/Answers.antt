-- `places_in` reads the run of words in which the places stand. Assumes nothing.
use mathlib.Core.Path.{sym, ap, ◌∙◌}
use native.Mathlib.Omega.{arith}
use Rattle.network.specs.Places.{places_length, places_in}
use Rattle.layout.specs.Layout.{book_in, places_start, book_length}
use Rattle.layout.specs.RunPatches.{part_at}
use Rattle.layout.proofs.reading.places_in.Goals as goal

pub returns : goal.returns
unfolding book_in
returns c = ap places_in (c.words_in.ensures ∙ sym (part_at c.args.s.now 0 book_length places_start places_length (omega arith)))
