-- `place_words` stores the words of one record after those before it. The loop's invariant: the places passed are read back. Assumes nothing.
use mathlib.Core.Path.{◌≡◌}
use lib.ListN.{length}
use Rattle.network.specs.PlaceLaws.{Lent}
use Rattle.network.proofs.places.place_words.Given as goal

abbrev pub invariant-loop-p : goal.invariant-loop-p
invariant-loop-p l = (length l.places ≡ 256) × Lent l.places l.p l.w
