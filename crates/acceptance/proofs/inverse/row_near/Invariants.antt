-- `row_near` has the sum of the first j sizes at each turn, at most the limit. Assumes nothing.
use Prim.Native.Nat.{◌≤◌}
use mathlib.Core.Path.{◌≡◌}
use lib.IntN.{nat_abs}
use Rattle.integers.specs.Sums.{sum_n}
use Rattle.integers.specs.Inverses.{defect}
use Rattle.acceptance.specs.Tests.{by_rows}
use Rattle.acceptance.proofs.inverse.row_near.Given as goal

abbrev pub invariant-loop-j : goal.invariant-loop-j
invariant-loop-j l = (l.sum ≡ sum_n l.j (λ j'. nat_abs (defect l.n (by_rows 48 l.normal) (by_rows l.n l.m) l.i j'))) × (l.sum ≤ 67108864)
