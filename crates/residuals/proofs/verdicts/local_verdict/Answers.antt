-- The products fit by the sizes of v and q; each branch is a law of `local_verdict`. Assumes nothing.
use mathlib.Core.Path.{◌≡◌}
use mathlib.Core.List.{[], ◌∷◌}
use Prim.Native.Nat.{◌≤◌, ◌^◌}
use lib.IntN.{ℤ, pos, nat_abs, ◌*ℤ◌}
use Rattle.integers.specs.Code.{fit, code_bounds, ringm, code_shapes}
use Rattle.lists.specs.Stored.{stored, back}
use Rattle.residuals.specs.VerdictLaws.{local_loose, local_fail, local_pass}
use Rattle.residuals.proofs.verdicts.local_verdict.Goals as goal

-- the two sides as the code has them
left : (q : ℤ) → nat_abs q ≤ 2 ^ 40 → stored (pos 60025 *ℤ stored q) ≡ pos 60025 *ℤ q
left q h = ringm (q ∷ []) (search code_shapes depth 20) tt

right : (v : ℤ) → nat_abs v ≤ 300000 → stored (stored (stored v *ℤ stored v) *ℤ pos 16777216) ≡ v *ℤ v *ℤ pos 16777216
right v h = ringm (v ∷ []) (search code_shapes depth 20) tt

pub returns-then-q-lt16384 : goal.returns-then-q-lt16384
returns-then-q-lt16384 c = local_loose c.args.v c.args.q (rw (back c.args.q c.requires.1 tt) at (c.if-q-lt16384.true))

pub overflow_mul-q : goal.overflow_mul-q
overflow_mul-q c = let v = c.requires.0 in let q = c.requires.1 in fit (search code_bounds depth 20) tt

pub overflow_mul-v : goal.overflow_mul-v
overflow_mul-v c = let v = c.requires.0 in let q = c.requires.1 in fit (search code_bounds depth 20) tt

pub overflow_mul-v-2 : goal.overflow_mul-v-2
overflow_mul-v-2 c = let v = c.requires.0 in let q = c.requires.1 in fit (search code_bounds depth 20) tt

pub returns-then-q-v : goal.returns-then-q-v
returns-then-q-v c =
    local_fail c.args.v c.args.q (rw (back c.args.q c.requires.1 tt) at (c.if-q-lt16384.false))
    (rw (left c.args.q c.requires.1, right c.args.v c.requires.0) at (c.if-q-v.true))

pub returns : goal.returns
returns c =
    local_pass c.args.v c.args.q (rw (back c.args.q c.requires.1 tt) at (c.if-q-lt16384.false))
    (rw (left c.args.q c.requires.1, right c.args.v c.requires.0) at (c.if-q-v.false))
