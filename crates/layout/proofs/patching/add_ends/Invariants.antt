-- `add_ends` adds the terms of u to the words of bytes. The loop's invariant: those of the ends passed are added. Assumes nothing.
use mathlib.Core.Path.{◌≡◌}
use lib.ListN.{length}
use Rattle.integers.specs.Tables.{plus}
use Rattle.words.specs.Runs.{put_words}
use Rattle.normals.specs.ShareTerms.{ends_from}
use Rattle.layout.specs.Layout.{matrix_start, book_length}
use Rattle.layout.specs.Bytes.{words_of}
use Rattle.layout.proofs.patching.add_ends.Given as goal

abbrev pub invariant-loop-e : goal.invariant-loop-e
invariant-loop-e l = (length l.s ≡ length l.initial.s) × (l.s ≡ put_words l.initial.s 0 (plus book_length (words_of l.initial.s) l.sign (ends_from matrix_start l.equation l.e)))
