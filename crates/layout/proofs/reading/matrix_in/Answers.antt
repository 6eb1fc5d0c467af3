-- `matrix_in` reads a part of N and u. Assumes nothing.
use mathlib.Core.Path.{sym, ◌∙◌}
use native.Mathlib.Omega.{arith}
use Rattle.layout.specs.Layout.{book_in, matrix_start, book_length}
use Rattle.layout.specs.RunPatches.{part_at}
use Rattle.layout.proofs.reading.matrix_in.Goals as goal

pub returns : goal.returns
unfolding book_in
returns c = c.words_in.ensures ∙ sym (part_at c.args.s.now 0 book_length matrix_start 2304 (omega arith))
