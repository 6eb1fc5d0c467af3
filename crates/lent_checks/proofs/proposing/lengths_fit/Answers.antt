-- n is at most 48, so its square fits; the tests together are the definition (`lengths_test`). Assumes nothing.
use native.Mathlib.Nat.{mul-le-mul}
use native.Mathlib.Omega.{arith}
use Rattle.lent_checks.proofs.Offered.{lengths_test}
use Rattle.lent_checks.proofs.proposing.lengths_fit.Goals as goal

pub overflow_mul-entries : goal.overflow_mul-entries
overflow_mul-entries c = let square = mul-le-mul c.requires c.requires in omega arith

pub returns : goal.returns
returns c = lengths_test _ _ _
