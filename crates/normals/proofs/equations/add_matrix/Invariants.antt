-- `add_matrix` adds a record's share to N. The loop's invariant: the ends passed are added. Assumes nothing.
use Prim.Native.Nat.{ℕ}
use mathlib.Core.Path.{◌≡◌}
use lib.IntN.{ℤ}
use Rattle.integers.specs.Sums.{sum}
use Rattle.normals.specs.declared.Equation.{Equation}
use Rattle.integers.specs.Tables.{plus}
use Rattle.normals.specs.Equations.{row_n}
use Rattle.normals.proofs.equations.add_matrix.Given as goal

-- what the ends below e add
abbrev pub sofar : Equation → ℕ → ℕ → ℤ
sofar q e k = sum e (λ x. row_n q x k)

abbrev pub invariant-loop-e : goal.invariant-loop-e
invariant-loop-e l = l.n ≡ plus 2304 l.initial.n l.sign (sofar l.equation l.e)
