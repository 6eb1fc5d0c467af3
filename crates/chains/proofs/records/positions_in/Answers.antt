-- `positions_in` has put in the stations of the positions at the first p places at each turn. Assumes nothing.
use mathlib.Core.Path.{◌≡◌, refl, ap, ◌∙◌}
use mathlib.Core.Bool.{cond}
use native.Mathlib.Omega.{arith}
use Rattle.network.specs.Records.{is_position, to_of}
use Rattle.network.specs.declared.Record.{Record}
use Rattle.chains.specs.Bits.{set_bit, put_in, put_step}
use Rattle.chains.proofs.records.positions_in.Goals as goal

pub loop-p-init : goal.loop-p-init
unfolding put_in
loop-p-init c = refl

pub with_position-w-requires : goal.with_position-w-requires
with_position-w-requires c = rw c.record_at-r.ensures (c.requires.1.to c.loop-p.p c.loop-p-test.true)

pub loop-p-preserved : goal.loop-p-preserved
loop-p-preserved c = rw (put_step, ← c.loop-p.invariant) (c.with_position-w.ensures ∙ ap (λ (r : Record). cond (is_position r) (set_bit c.loop-p.w (to_of r)) c.loop-p.w) c.record_at-r.ensures)

pub returns : goal.returns
returns c = let e : c.loop-p.p ≡ 256 = omega arith in c.loop-p.invariant ∙ rw e
