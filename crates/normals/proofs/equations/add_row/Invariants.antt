-- `add_row` adds the part of one end to N. The loop's invariant: the pairs passed are added. Assumes nothing.
use Prim.Native.Nat.{ℕ, ◌+◌, ◌*◌}
use mathlib.Core.Path.{◌≡◌}
use lib.IntN.{ℤ, ◌*ℤ◌}
use Rattle.integers.specs.Sums.{sum, δ}
use Rattle.normals.specs.declared.Equation.{Equation}
use Rattle.integers.specs.Tables.{plus}
use Rattle.normals.specs.Equations.{at_of, pair_n}
use Rattle.normals.proofs.equations.add_row.Given as goal

-- what the ends below f add
abbrev pub sofar : Equation → ℕ → ℕ → ℕ → ℤ
sofar q e f k = sum f (λ g. pair_n q e g *ℤ δ (at_of q e * 48 + at_of q g) k)

abbrev pub invariant-loop-f : goal.invariant-loop-f
invariant-loop-f l = l.n ≡ plus 2304 l.initial.n l.sign (sofar l.equation l.e l.f)
