-- `records_laid` tests the words of n records. The loop's invariant: those passed are laid out. Assumes nothing.
use Prim.Native.Nat.{◌+◌, ◌*◌}
use mathlib.Core.Path.{◌≡◌}
use mathlib.Core.Bool.{true}
use Rattle.lists.specs.All.{all_below}
use Rattle.layout.specs.Laid.{record_laid}
use Rattle.layout.specs.Bytes.{words_of}
use Rattle.layout.proofs.laid.records_laid.Given as goal

abbrev pub invariant-loop-p : goal.invariant-loop-p
invariant-loop-p l = all_below l.p (λ q. record_laid (words_of l.s) (l.at + q * l.step)) ≡ true
