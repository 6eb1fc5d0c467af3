-- `one_pass` is `pass` of the first edges at each turn. Assumes nothing.
use Rattle.std.proofs.Common.{◌≡◌, refl, ◌∙◌, arith}
use Rattle.chains.specs.Search.{pass, pass_step}
use Rattle.chains.proofs.passes.one_pass.Goals as goal

pub loop-e-init : goal.loop-e-init
unfolding pass
loop-e-init c = refl

pub join_ends-v-requires : goal.join_ends-v-requires
join_ends-v-requires c = let l = c.requires.low c.loop-e.e-index in (omega arith, omega arith)

pub loop-e-preserved : goal.loop-e-preserved
loop-e-preserved c = rw (pass_step, ← c.loop-e.invariant) c.join_ends-v.ensures

pub returns : goal.returns
returns c = let e : c.loop-e.e-index ≡ 256 = omega arith in c.loop-e.invariant ∙ rw e
