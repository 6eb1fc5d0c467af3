-- The tests put the shifted number in the range of the conversion, and the whole one below 2^37, so the shift can be taken off (`shifted_back`). Assumes nothing.
use Rattle.std.proofs.Common.{ℕ, ◌<◌, T, pos, ◌-ℤ◌, sym, subst, arith, w64, SFits, to_z}
use mir.ValLaws.{to_z_pos}
use Rattle.integers.specs.Bounds.{bounds, fits}
use lib.Ieee.{of_bits, neg}
use Rattle.engine.proofs.rounding.nearest.Goals as goal

-- the shift taken off again
shifted_back : (n : ℕ) → n < 137438953472 → SFits w64 (to_z w64 n -ℤ pos 68719476736)
shifted_back n h = rw (to_z_pos w64 n (omega arith)) (fits (search bounds) (omega arith))

pub truncating_f64_to_u64-whole-requires : goal.truncating_f64_to_u64-whole-requires
unfolding of_bits neg
truncating_f64_to_u64-whole-requires c = record { lower_bound = subst T (sym c.if-shifted.true) tt; upper_bound = subst T (sym c.if-shifted-2.true) tt }

pub overflow_sub-result : goal.overflow_sub-result
overflow_sub-result c = shifted_back c.truncating_f64_to_u64-whole.result c.if-whole-lt137438953472.true
