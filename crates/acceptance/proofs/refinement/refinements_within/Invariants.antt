-- `refinements_within` stops at the first row that fails; all before it are within. Assumes nothing.
use Prim.Native.Nat.{◌*◌, ◌^◌}
use mathlib.Core.Path.{◌≡◌}
use mathlib.Core.Bool.{true}
use lib.Dec.{leb}
use lib.IntN.{nat_abs, ◌*ℤ◌}
use Rattle.integers.specs.Sums.{sum}
use Rattle.lists.specs.All.{all_below}
use Rattle.acceptance.specs.Tests.{at, by_rows}
use Rattle.acceptance.proofs.refinement.refinements_within.Given as goal

abbrev pub invariant-loop-i : goal.invariant-loop-i
invariant-loop-i l = all_below l.i (λ i'. leb (nat_abs (sum l.n (λ k. by_rows l.n l.m i' k *ℤ at l.r k))) (15 * 2 ^ 26)) ≡ true
