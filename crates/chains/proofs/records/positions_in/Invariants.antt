-- `positions_in` has put in the stations of the positions at the first p places at each turn. Assumes nothing.
use Rattle.std.specs.Prelude.{◌≡◌}
use Rattle.network.specs.Records.{record_at, is_position, to_of}
use Rattle.network.specs.Places.{places_in}
use Rattle.chains.specs.Bits.{put_in}
use Rattle.chains.proofs.records.positions_in.Given as goal

abbrev pub invariant-loop-p : goal.invariant-loop-p
invariant-loop-p l = l.w ≡ put_in l.p (λ q. is_position (record_at (places_in l.places) q)) (λ q. to_of (record_at (places_in l.places) q)) 0
