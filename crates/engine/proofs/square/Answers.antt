-- n is at most 48, so the product is at most 2,304 (`small`) and fits. Assumes nothing.
use Rattle.std.proofs.Common.{ℕ, ◌*◌, ◌≤◌, refl, mul-le-mul, arith}
use Rattle.engine.proofs.square.Goals as goal

small : {n : ℕ} → n ≤ 48 → n * n ≤ 2304
small h = mul-le-mul h h

pub overflow_mul-result : goal.overflow_mul-result
overflow_mul-result c = omega (arith, small c.requires)

pub returns : goal.returns
returns c = (refl, small c.requires)
