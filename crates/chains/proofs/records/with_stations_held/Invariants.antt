-- `with_stations_held` has put in the held among the first s stations at each turn. Assumes nothing.
use Rattle.std.specs.Prelude.{◌≡◌}
use Rattle.chains.specs.Bits.{put_in}
use Rattle.chains.specs.Chains.{is_held}
use Rattle.chains.proofs.records.with_stations_held.Given as goal

abbrev pub invariant-loop-s : goal.invariant-loop-s
invariant-loop-s l = l.v ≡ put_in l.s (is_held l.stations l.c) (λ s'. s') l.w
