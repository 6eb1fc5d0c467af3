-- `lengths_fit` goes by the tests in turn. Assumes nothing.
use Rattle.std.proofs.Common.{arith}
use native.Mathlib.Nat.{mul-le-mul}
use Rattle.acceptance.proofs.judge.lengths_fit.Goals as goal

pub overflow_mul-n : goal.overflow_mul-n
overflow_mul-n c = record { fits = let h = mul-le-mul c.requires c.requires in omega arith }
