-- `with_stations_held` has put in the held among the first s stations at each turn. Assumes nothing.
use mathlib.Core.Path.{◌≡◌, refl, ◌∙◌}
use native.Mathlib.Omega.{arith}
use Rattle.chains.specs.Bits.{put_in, put_step}
use Rattle.network.specs.StationLaws.{unknown-at}
use Rattle.chains.proofs.records.with_stations_held.Goals as goal

pub loop-s-init : goal.loop-s-init
unfolding put_in
loop-s-init c = refl

pub loop-s-preserved : goal.loop-s-preserved
loop-s-preserved c = rw (put_step, unknown-at _ c.loop-s.s _ c.requires.1, ← c.loop-s.invariant) c.with_held-v.ensures

pub returns : goal.returns
returns c = let e : c.loop-s.s ≡ c.args.n = omega arith in c.loop-s.invariant ∙ rw e
