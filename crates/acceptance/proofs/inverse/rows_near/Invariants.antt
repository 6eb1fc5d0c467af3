-- `rows_near` stops at the first row that fails; all before it pass. Assumes nothing.
use Prim.Native.Nat.{◌^◌}
use mathlib.Core.Path.{◌≡◌}
use mathlib.Core.Bool.{true}
use lib.Dec.{leb}
use lib.IntN.{nat_abs}
use Rattle.integers.specs.Sums.{sum_n}
use Rattle.lists.specs.All.{all_below}
use Rattle.integers.specs.Inverses.{defect}
use Rattle.acceptance.specs.Tests.{by_rows}
use Rattle.acceptance.proofs.inverse.rows_near.Given as goal

abbrev pub invariant-loop-i : goal.invariant-loop-i
invariant-loop-i l = all_below l.i (λ i'. leb (sum_n l.n (λ j. nat_abs (defect l.n (by_rows 48 l.normal) (by_rows l.n l.m) i' j))) (2 ^ 26)) ≡ true
