-- `same_words` compares word by word. The loop's invariant: those passed are equal. Assumes nothing.
use Prim.Native.Nat.{◌*◌}
use mathlib.Core.Path.{◌≡◌}
use mathlib.Core.Bool.{true}
use lib.ListN.{length}
use Rattle.words.specs.Runs.{words_at}
use Rattle.lists.specs.Same.{same_entries}
use Rattle.layout.proofs.laid.same_words.Given as goal

abbrev pub invariant-loop-i : goal.invariant-loop-i
invariant-loop-i l = same_entries l.i (words_at l.s (8 * l.k) (length l.w)) l.w ≡ true
