-- `normal_residual` has the first i entries of u − Nx at each turn. Assumes nothing.
use lib.IntN.{pos}
use Rattle.lists.specs.Filling.{Mapped}
use Rattle.acceptance.specs.Tests.{at, by_rows, normal_residual}
use Rattle.acceptance.proofs.refinement.normal_residual.Given as goal

abbrev pub invariant-loop-i : goal.invariant-loop-i
invariant-loop-i l = Mapped (pos 0) 48 (normal_residual l.n (by_rows 48 l.normal) (at l.right) (at l.x)) l.initial.out l.out l.i
