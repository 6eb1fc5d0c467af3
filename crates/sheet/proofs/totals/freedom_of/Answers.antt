-- Both numbers are small, so the casts and the difference fit. Assumes nothing.
use Prim.Native.Nat.{◌≤◌}
use mathlib.Core.Path.{◌≡◌}
use mathlib.Core.List.{[], ◌∷◌}
use lib.IntN.{ℤ, pos, nat_abs, ◌-ℤ◌}
use Rattle.integers.specs.Code.{fit, code_bounds, ringm, code_shapes}
use Rattle.lists.specs.Stored.{stored}
use Rattle.sheet.proofs.totals.freedom_of.Goals as goal

-- an unsigned number that is cast is one that was stored
difference-fits : (a b : ℤ) → nat_abs a ≤ 768 → nat_abs b ≤ 96 → mir.Val.SFits mir.Syntax.w64 (stored a -ℤ stored b)
difference-fits a b h k = fit (search code_bounds depth 20) tt

difference : (a b : ℤ) → nat_abs a ≤ 768 → nat_abs b ≤ 96 → stored (stored a -ℤ stored b) ≡ a -ℤ b
difference a b h k = ringm (a ∷ b ∷ []) (search code_shapes depth 20) tt

pub overflow_sub-result : goal.overflow_sub-result
overflow_sub-result c = difference-fits (pos c.args.observed) (pos c.args.n) c.requires.0 c.requires.1

pub returns : goal.returns
returns c = difference (pos c.args.observed) (pos c.args.n) c.requires.0 c.requires.1
