-- `add_rows` adds the terms of N to the words of bytes, end by end. The loop's invariant: those of the ends passed are added. Assumes nothing.
use mathlib.Core.Path.{◌≡◌}
use lib.ListN.{length}
use Rattle.integers.specs.Tables.{plus}
use Rattle.words.specs.Runs.{put_words}
use Rattle.normals.specs.ShareTerms.{rows_from}
use Rattle.layout.specs.Layout.{matrix_start, book_length}
use Rattle.layout.specs.Bytes.{words_of}
use Rattle.layout.proofs.patching.add_rows.Given as goal

abbrev pub invariant-loop-e : goal.invariant-loop-e
invariant-loop-e l = (length l.s ≡ length l.initial.s) × (l.s ≡ put_words l.initial.s 0 (plus book_length (words_of l.initial.s) l.sign (rows_from matrix_start l.equation l.e)))
