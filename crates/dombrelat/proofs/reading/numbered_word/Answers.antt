-- The number is small, so 256 times it fits and the cast keeps it. Assumes nothing.
use Prim.Native.Nat.{◌*◌, ◌<◌, ◌^◌}
use native.Mathlib.Omega.{arith}
use mir.Syntax.{w64}
use mir.Facts.{to_z-of_z}
use Rattle.dombrelat.proofs.reading.numbered_word.Goals as goal

pub returns : goal.returns
returns c = to_z-of_z {w = w64} (record { sfits = let h : 256 * c.args.number < 2 ^ 63 = omega arith in h })
