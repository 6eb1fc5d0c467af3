-- `has` reads the bit by a shift. Assumes nothing.
use mathlib.Core.Path.{ap}
use Prim.Native.Nat.{ℕ}
use lib.Dec.{eqb}
use Rattle.chains.specs.Bits.{digit_shift}
use Rattle.chains.proofs.sets.has.Goals as goal

pub returns : goal.returns
returns c = ap (λ (d : ℕ). eqb d 1) (digit_shift c.args.s c.args.w)
