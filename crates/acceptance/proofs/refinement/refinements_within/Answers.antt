-- `refinements_within` stops at the first row that fails; all before it are within. Assumes nothing.
use Prim.Native.Nat.{ℕ, ◌≤◌, ◌*◌, ◌^◌}
use mathlib.Core.Path.{◌≡◌, refl, sym, ap, ◌∙◌}
use mathlib.Core.Bool.{Bool}
use native.Mathlib.Omega.{arith}
use lib.Dec.{leb}
use Rattle.std.proofs.Common.{le-leb}
use Rattle.std.proofs.lemmas.Bool.{lt-leb}
use lib.IntN.{nat_abs, ◌*ℤ◌}
use mir.Syntax.{w64}
use mir.Val.{to_z, of_z}
use Rattle.integers.specs.Sums.{sum}
use Rattle.lists.specs.All.{all_none, all_more, all_fails, all_done}
use Rattle.acceptance.specs.Tests.{at, by_rows}
use Rattle.acceptance.specs.Loops.{small-factors, vector_dot, dot_small, read_back}
use Rattle.acceptance.proofs.refinement.refinements_within.Goals as goal

pub loop-i-init : goal.loop-i-init
loop-i-init c = all_none _

pub dot-d-requires : goal.dot-d-requires
dot-d-requires c = small-factors c.requires _ c.loop-i.i refl c.loop-i-test.true

pub returns-then-unsigned_abs-gt-REFINEMENT : goal.returns-then-unsigned_abs-gt-REFINEMENT
returns-then-unsigned_abs-gt-REFINEMENT c =
    let passes : ℕ → Bool = λ i. leb (nat_abs (sum c.args.n (λ k. by_rows c.args.n c.args.m.now i k *ℤ at c.args.r.now k))) (15 * 2 ^ 26) in
    let product : to_z w64 (of_z w64 c.dot-d.result)
    ≡ sum c.args.n (λ k. by_rows c.args.n c.args.m.now c.loop-i.i k *ℤ at c.args.r.now k) = let b : nat_abs c.dot-d.result ≤ 48 * 2 ^ 57 = rw c.dot-d.ensures (dot_small (small-factors c.requires _ c.loop-i.i refl c.loop-i-test.true)) in
    read_back c.dot-d.result (omega arith)
    ∙ (c.dot-d.ensures ∙ vector_dot c.args.n c.args.m.now c.args.r.now (c.loop-i.i * c.args.n) c.loop-i.i c.args.n refl) in
    let is : c.unsigned_abs.result ≡ nat_abs (sum c.args.n (λ k. by_rows c.args.n c.args.m.now c.loop-i.i k *ℤ at c.args.r.now k)) = c.unsigned_abs.ensures.value ∙ ap nat_abs product in
    sym (all_fails _ passes _ c.loop-i-test.true (lt-leb _ _ (omega (arith, is, c.if-unsigned_abs-gt-REFINEMENT.true))))

pub loop-i-preserved : goal.loop-i-preserved
loop-i-preserved c =
    let passes : ℕ → Bool = λ i. leb (nat_abs (sum c.args.n (λ k. by_rows c.args.n c.args.m.now i k *ℤ at c.args.r.now k))) (15 * 2 ^ 26) in
    let product : to_z w64 (of_z w64 c.dot-d.result)
    ≡ sum c.args.n (λ k. by_rows c.args.n c.args.m.now c.loop-i.i k *ℤ at c.args.r.now k) = let b : nat_abs c.dot-d.result ≤ 48 * 2 ^ 57 = rw c.dot-d.ensures (dot_small (small-factors c.requires _ c.loop-i.i refl c.loop-i-test.true)) in
    read_back c.dot-d.result (omega arith)
    ∙ (c.dot-d.ensures ∙ vector_dot c.args.n c.args.m.now c.args.r.now (c.loop-i.i * c.args.n) c.loop-i.i c.args.n refl) in
    let is : c.unsigned_abs.result ≡ nat_abs (sum c.args.n (λ k. by_rows c.args.n c.args.m.now c.loop-i.i k *ℤ at c.args.r.now k)) = c.unsigned_abs.ensures.value ∙ ap nat_abs product in
    all_more _ passes c.loop-i.invariant (le-leb _ _ (omega (arith, is, c.if-unsigned_abs-gt-REFINEMENT.false)))

pub returns : goal.returns
returns c =
    let passes : ℕ → Bool = λ i. leb (nat_abs (sum c.args.n (λ k. by_rows c.args.n c.args.m.now i k *ℤ at c.args.r.now k))) (15 * 2 ^ 26) in
    all_done _ passes _ c.loop-i.auto.i-end c.loop-i-test.false c.loop-i.invariant
