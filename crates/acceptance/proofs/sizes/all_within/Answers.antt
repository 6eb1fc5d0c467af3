-- `all_within` stops at the first number that is too large; all before it are within. Assumes nothing.
use Rattle.std.proofs.Common.{◌≡◌, ℕ, Bool, sym, ap, ◌∙◌, leb, nat_abs, le-leb, w64, arith, rules}
use Rattle.std.proofs.lemmas.Bool.{lt-leb}
use Rattle.std.proofs.lemmas.Int.{to_z-of_z}
use Rattle.lists.specs.All.{all_none, all_more, all_fails}
use Rattle.acceptance.specs.Tests.{at}
use Rattle.acceptance.proofs.sizes.all_within.Goals as goal

pub loop-v-init : goal.loop-v-init
loop-v-init c = all_none _

pub returns-then-unsigned_abs-limit : goal.returns-then-unsigned_abs-limit
returns-then-unsigned_abs-limit c =
    let passes : ℕ → Bool = λ k. leb (nat_abs (at c.args.list.now k)) c.args.limit in
    let is : c.unsigned_abs.result ≡ nat_abs (at c.args.list.now c.loop-v.v-index) = c.unsigned_abs.ensures.value ∙ ap nat_abs (to_z-of_z w64 (at c.args.list.now c.loop-v.v-index) (search rules)) in
    sym (all_fails _ passes _ c.loop-v-test.true (lt-leb _ _ (omega (arith, is, c.if-unsigned_abs-limit.true))))

pub loop-v-preserved : goal.loop-v-preserved
loop-v-preserved c =
    let passes : ℕ → Bool = λ k. leb (nat_abs (at c.args.list.now k)) c.args.limit in
    let is : c.unsigned_abs.result ≡ nat_abs (at c.args.list.now c.loop-v.v-index) = c.unsigned_abs.ensures.value ∙ ap nat_abs (to_z-of_z w64 (at c.args.list.now c.loop-v.v-index) (search rules)) in
    all_more _ passes c.loop-v.invariant (le-leb _ _ (omega (arith, is, c.if-unsigned_abs-limit.false)))
