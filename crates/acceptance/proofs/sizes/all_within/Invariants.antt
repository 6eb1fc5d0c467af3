-- `all_within` stops at the first number that is too large; all before it are within. Assumes nothing.
use Rattle.std.specs.Prelude.{◌≡◌, true, leb, nat_abs}
use Rattle.lists.specs.All.{all_below}
use Rattle.acceptance.specs.Tests.{at}
use Rattle.acceptance.proofs.sizes.all_within.Given as goal

abbrev pub invariant-loop-v : goal.invariant-loop-v
invariant-loop-v l = all_below l.v-index (λ k. leb (nat_abs (at l.list k)) l.limit) ≡ true
