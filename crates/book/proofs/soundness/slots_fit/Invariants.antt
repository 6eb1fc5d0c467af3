-- The loop's invariant: the slots passed pass the test (`all_below`). The first that fails settles it (`all_fails`); after the last, `all_done`. Assumes nothing.
use Prim.Native.Nat.{ℕ}
use mathlib.Core.Path.{◌≡◌}
use mathlib.Core.Bool.{Bool, true, ◌||◌}
use mathlib.Core.List.{List}
use lib.Dec.{ltb}
use lib.ListN.{get_or}
use Rattle.lists.specs.All.{all_below}
use Rattle.book.specs.declared.Reversal.{Reversal}
use Rattle.book.specs.Journal.{age, free, is_free}
use Rattle.book.proofs.soundness.slots_fit.Given as goal

-- the test of a slot
abbrev pub test : List Reversal → ℕ → ℕ → ℕ → Bool
test entries next count slot = ltb (age next slot) count || is_free (get_or entries slot free)

abbrev pub invariant-loop-slot : goal.invariant-loop-slot
invariant-loop-slot l = all_below l.slot (test l.journal.entries l.journal.next l.journal.count) ≡ true
