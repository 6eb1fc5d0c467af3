-- `add_pairs` adds the terms of N of one end to the words of bytes. The loop's invariant: those of the pairs passed are added. Assumes nothing.
use mathlib.Core.Path.{◌≡◌}
use lib.ListN.{length}
use Rattle.integers.specs.Tables.{plus}
use Rattle.words.specs.Runs.{put_words}
use Rattle.normals.specs.Equations.{ends_of}
use Rattle.normals.specs.ShareTerms.{pairs_from}
use Rattle.layout.specs.Layout.{matrix_start, book_length}
use Rattle.layout.specs.Bytes.{words_of}
use Rattle.layout.proofs.patching.add_pairs.Given as goal

abbrev pub invariant-loop-f : goal.invariant-loop-f
invariant-loop-f l = (length l.s ≡ length l.initial.s) × (l.s ≡ put_words l.initial.s 0 (plus book_length (words_of l.initial.s) l.sign (pairs_from matrix_start (ends_of l.at l.coef l.weight) l.e l.f)))
