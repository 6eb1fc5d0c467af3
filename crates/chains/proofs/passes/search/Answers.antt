-- `search` ends where a pass changes nothing; each other pass makes the word larger. Assumes nothing.
use mathlib.Core.Path.{sym, ◌∙◌}
use native.Mathlib.Omega.{arith}
use Rattle.chains.specs.Search.{more, found, nothing_yet, pass_larger}
use Rattle.chains.specs.ChainLaws.{low_ends}
use Rattle.chains.proofs.passes.search.Goals as goal

pub loop-w-init : goal.loop-w-init
loop-w-init c = nothing_yet _ _ _ _ c.ranges.h.fits

pub one_pass-v-requires : goal.one_pass-v-requires
one_pass-v-requires c = c.requires

pub returns-then-v-w : goal.returns-then-v-w
returns-then-v-w c = found c.loop-w.invariant (sym c.one_pass-v.ensures ∙ c.if-v-w.true)

pub loop-w-smaller : goal.loop-w-smaller
loop-w-smaller c =
    let l = pass_larger _ _ _ _ _ c.one_pass-v.ensures c.if-v-w.false in
    let n = (more c.loop-w.invariant (low_ends c.requires)).fits in
    omega (arith, c.one_pass-v.ensures)

pub loop-w-preserved : goal.loop-w-preserved
loop-w-preserved c = rw c.one_pass-v.ensures (more c.loop-w.invariant (low_ends c.requires))
