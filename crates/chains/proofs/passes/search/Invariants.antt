-- `search` ends where a pass changes nothing; each other pass makes the word larger. Assumes nothing.
use Prim.Native.Nat.{◌-◌, ◌^◌}
use Rattle.chains.specs.Search.{Partial}
use Rattle.chains.specs.Chains.{from_end, to_end}
use Rattle.chains.proofs.passes.search.Given as goal

abbrev pub invariant-loop-w : goal.invariant-loop-w
invariant-loop-w l = Partial (from_end l.edges) (to_end l.edges) 256 l.h l.w

abbrev pub decreases-loop-w : goal.decreases-loop-w
decreases-loop-w l = 2 ^ 32 - l.w
