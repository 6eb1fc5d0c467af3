-- `dot` has the sum of the first k products at each turn. Assumes nothing.
use Prim.Native.Nat.{◌+◌, ◌*◌}
use mathlib.Core.Path.{◌≡◌}
use lib.IntN.{◌*ℤ◌}
use Rattle.integers.specs.Sums.{sum as Sum}
use Rattle.acceptance.specs.Tests.{at}
use Rattle.acceptance.proofs.products.dot.Given as goal

abbrev pub invariant-loop-k : goal.invariant-loop-k
invariant-loop-k l = l.sum ≡ Sum l.k (λ k'. at l.a (l.row + k') *ℤ at l.b (l.column + k' * l.stride))
