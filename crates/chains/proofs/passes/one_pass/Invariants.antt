-- `one_pass` is `pass` of the first edges at each turn. Assumes nothing.
use Rattle.std.specs.Prelude.{◌≡◌}
use Rattle.chains.specs.Search.{pass}
use Rattle.chains.specs.Chains.{from_end, to_end}
use Rattle.chains.proofs.passes.one_pass.Given as goal

abbrev pub invariant-loop-e : goal.invariant-loop-e
invariant-loop-e l = l.v ≡ pass (from_end l.edges) (to_end l.edges) l.e-index l.w
