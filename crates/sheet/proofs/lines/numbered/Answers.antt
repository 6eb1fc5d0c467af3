-- The number is small, so the cast keeps it. Assumes nothing.
use native.Mathlib.Omega.{arith}
use Prim.Native.Nat.{◌+◌, ◌≤◌}
use lib.IntN.{pos, nat_abs}
use Rattle.lists.specs.Stored.{back}
use Rattle.sheet.proofs.lines.numbered.Goals as goal

pub returns : goal.returns
returns c = let h : nat_abs (pos (c.args.k + 1)) ≤ 256 = omega arith in back (pos (c.args.k + 1)) h tt
