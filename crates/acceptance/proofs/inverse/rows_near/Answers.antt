-- `rows_near` stops at the first row that fails; all before it pass. Assumes nothing.
use Prim.Native.Nat.{ℕ, ◌^◌}
use mathlib.Core.Path.{◌≡◌, sym, ◌∙◌}
use mathlib.Core.Bool.{Bool, true, false}
use lib.Dec.{leb}
use lib.IntN.{nat_abs}
use Rattle.integers.specs.Sums.{sum_n}
use Rattle.lists.specs.All.{all_none, all_more, all_fails, all_done}
use Rattle.integers.specs.Inverses.{defect}
use Rattle.acceptance.specs.Tests.{by_rows, defect_small}
use Rattle.acceptance.proofs.inverse.rows_near.Goals as goal

pub loop-i-init : goal.loop-i-init
loop-i-init c = all_none _

pub row_near-requires : goal.row_near-requires
row_near-requires c = record { defect_range = c.requires; inside = c.loop-i-test.true }

pub returns-then-not-row_near : goal.returns-then-not-row_near
unfolding defect_small
returns-then-not-row_near c =
    let passes : ℕ → Bool = λ i. leb (sum_n c.args.n (λ j. nat_abs (defect c.args.n (by_rows 48 c.args.normal.now) (by_rows c.args.n c.args.m.now) i j))) (2 ^ 26) in
    let told : (b : Bool) → c.row_near.result ≡ b → passes c.loop-i.i ≡ b = λ b e. sym c.row_near.ensures ∙ e in
    sym (all_fails _ passes _ c.loop-i-test.true (told false c.if-not-row_near.true))

pub loop-i-preserved : goal.loop-i-preserved
loop-i-preserved c =
    let passes : ℕ → Bool = λ i. leb (sum_n c.args.n (λ j. nat_abs (defect c.args.n (by_rows 48 c.args.normal.now) (by_rows c.args.n c.args.m.now) i j))) (2 ^ 26) in
    let told : (b : Bool) → c.row_near.result ≡ b → passes c.loop-i.i ≡ b = λ b e. sym c.row_near.ensures ∙ e in
    all_more _ passes c.loop-i.invariant (told true c.if-not-row_near.false)

pub returns : goal.returns
unfolding defect_small
returns c =
    let passes : ℕ → Bool = λ i. leb (sum_n c.args.n (λ j. nat_abs (defect c.args.n (by_rows 48 c.args.normal.now) (by_rows c.args.n c.args.m.now) i j))) (2 ^ 26) in
    all_done _ passes _ c.loop-i.auto.i-end c.loop-i-test.false c.loop-i.invariant
