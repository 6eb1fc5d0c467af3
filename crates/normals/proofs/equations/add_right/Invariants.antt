-- `add_right` adds a record's share to u. The loop's invariant: the ends passed are added. Assumes nothing.
use Prim.Native.Nat.{ℕ, ◌%◌}
use mathlib.Core.Path.{◌≡◌}
use lib.IntN.{ℤ, ◌*ℤ◌}
use Rattle.integers.specs.Sums.{sum, δ}
use Rattle.normals.specs.declared.Equation.{Equation}
use Rattle.integers.specs.Tables.{plus}
use Rattle.normals.specs.Equations.{at_of, coef_of, weighted}
use Rattle.normals.proofs.equations.add_right.Given as goal

-- what the ends below e add
abbrev pub sofar : Equation → ℕ → ℕ → ℤ
sofar q e k = sum e (λ x. coef_of q x *ℤ weighted q (x % 3) *ℤ δ (at_of q x) k)

abbrev pub invariant-loop-e : goal.invariant-loop-e
invariant-loop-e l = l.u ≡ plus 48 l.initial.u l.sign (sofar l.equation l.e)
