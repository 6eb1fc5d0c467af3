-- The index of d in the table gives the limits; each branch is `global_none` or a case of `global_inside`. Assumes nothing.
use native.Mathlib.Omega.{arith}
use mathlib.Core.Path.{◌≡◌, sym, ap, ◌∙◌}
use mathlib.Core.Bool.{Bool, true, false}
use mathlib.Core.List.{[], ◌∷◌}
use Prim.Native.Nat.{ℕ, ◌≤◌, ◌<◌}
use lib.ListN.{get_or}
use lib.IntN.{ℤ, pos, nat_abs, ◌*ℤ◌}
use lib.Signed.{lt_z}
use mir.Syntax.{w64}
use mir.Val.{SFits}
use mir.ValLaws.{to_z-of_z}
use Rattle.integers.specs.Code.{fit, code_bounds, ringm, code_shapes}
use Rattle.words.specs.Signed.{index_in}
use Rattle.lists.specs.Stored.{stored}
use Rattle.residuals.specs.declared.Limits.{Limits}
use Rattle.residuals.specs.Verdicts.{chi_square, limits}
use Rattle.residuals.specs.VerdictLaws.{lower, upper, lower-size, upper-size, global_none, global_inside}
use Rattle.residuals.proofs.verdicts.global_verdict.Goals as goal

-- 1000 times a limit, as the code has it
scaled : (z : ℤ) → nat_abs z ≤ 46979 → stored (pos 1000 *ℤ stored z) ≡ pos 1000 *ℤ z
scaled z h = ringm (z ∷ []) (search code_shapes depth 20) tt

module _ (t d : ℤ) (k : ℕ) (pair : Limits) (ft : SFits w64 t) (e : k ≡ index_in d 30) (h : k < 30) (p : pair ≡ get_or chi_square k (limits 0 0)) where
  small-lower : nat_abs pair.lower ≤ 46979
  small-lower = rw p (lower-size k h)

  small-upper : nat_abs pair.upper ≤ 46979
  small-upper = rw p (upper-size k h)

  below : (b : Bool) → lt_z (stored t) (stored (pos 1000 *ℤ stored pair.lower)) ≡ b → lt_z t (pos 1000 *ℤ lower k) ≡ b
  below b q = rw (to_z-of_z w64 t ft, scaled pair.lower small-lower, p) at q

  above : (b : Bool) → lt_z (stored (pos 1000 *ℤ stored pair.upper)) (stored t) ≡ b → lt_z (pos 1000 *ℤ upper k) t ≡ b
  above b q = rw (to_z-of_z w64 t ft, scaled pair.upper small-upper, p) at q

pub returns-then-k-ge30 : goal.returns-then-k-ge30
returns-then-k-ge30 c =
    let index : c.index_in-k.result ≡ index_in c.args.d 30 = c.index_in-k.ensures ∙ ap (λ (z : ℤ). index_in z 30) (to_z-of_z w64 c.args.d c.ranges.d) in
    global_none c.args.t c.args.d (omega (arith, index))

pub overflow_mul-pair : goal.overflow_mul-pair
overflow_mul-pair c =
    let index : c.index_in-k.result ≡ index_in c.args.d 30 = c.index_in-k.ensures ∙ ap (λ (z : ℤ). index_in z 30) (to_z-of_z w64 c.args.d c.ranges.d) in
    let q = small-lower c.args.t c.args.d c.index_in-k.result c.limits_at-pair.result c.ranges.t index (omega arith) c.limits_at-pair.ensures in
    fit (search code_bounds depth 20) tt

pub returns-then-t-pair : goal.returns-then-t-pair
returns-then-t-pair c =
    let index : c.index_in-k.result ≡ index_in c.args.d 30 = c.index_in-k.ensures ∙ ap (λ (z : ℤ). index_in z 30) (to_z-of_z w64 c.args.d c.ranges.d) in
    let inside : c.index_in-k.result < 30 = omega (arith, c.if-k-ge30.false) in
    sym (global_inside c.args.t c.args.d c.index_in-k.result index inside
    ∙ rw (below c.args.t c.args.d c.index_in-k.result c.limits_at-pair.result c.ranges.t index inside c.limits_at-pair.ensures true c.if-t-pair.true))

pub overflow_mul-pair-2 : goal.overflow_mul-pair-2
overflow_mul-pair-2 c =
    let index : c.index_in-k.result ≡ index_in c.args.d 30 = c.index_in-k.ensures ∙ ap (λ (z : ℤ). index_in z 30) (to_z-of_z w64 c.args.d c.ranges.d) in
    let q = small-upper c.args.t c.args.d c.index_in-k.result c.limits_at-pair.result c.ranges.t index (omega arith) c.limits_at-pair.ensures in
    fit (search code_bounds depth 20) tt

pub returns-then-pair-t : goal.returns-then-pair-t
returns-then-pair-t c =
    let index : c.index_in-k.result ≡ index_in c.args.d 30 = c.index_in-k.ensures ∙ ap (λ (z : ℤ). index_in z 30) (to_z-of_z w64 c.args.d c.ranges.d) in
    let inside : c.index_in-k.result < 30 = omega (arith, c.if-k-ge30.false) in
    sym (global_inside c.args.t c.args.d c.index_in-k.result index inside
    ∙ rw (
      below c.args.t c.args.d c.index_in-k.result c.limits_at-pair.result c.ranges.t index inside c.limits_at-pair.ensures false c.if-t-pair.false,
      above c.args.t c.args.d c.index_in-k.result c.limits_at-pair.result c.ranges.t index inside c.limits_at-pair.ensures true c.if-pair-t.true,
    ))

pub returns : goal.returns
returns c =
    let index : c.index_in-k.result ≡ index_in c.args.d 30 = c.index_in-k.ensures ∙ ap (λ (z : ℤ). index_in z 30) (to_z-of_z w64 c.args.d c.ranges.d) in
    let inside : c.index_in-k.result < 30 = omega (arith, c.if-k-ge30.false) in
    sym (global_inside c.args.t c.args.d c.index_in-k.result index inside
    ∙ rw (
      below c.args.t c.args.d c.index_in-k.result c.limits_at-pair.result c.ranges.t index inside c.limits_at-pair.ensures false c.if-t-pair.false,
      above c.args.t c.args.d c.index_in-k.result c.limits_at-pair.result c.ranges.t index inside c.limits_at-pair.ensures false c.if-pair-t.false,
    ))
