-- The number is at most 17 in size and 256 times the unknown is small, as the caller says, so the sum fits (`sum_is`). Assumes nothing.
use Prim.Native.Nat.{ℕ, ◌*◌, ◌≤◌}
use mathlib.Core.Path.{◌≡◌, sym, ap₂, ◌∙◌, subst}
use mathlib.Core.List.{[], ◌∷◌}
use native.Mathlib.Omega.{arith}
use lib.IntN.{ℤ, pos, nat_abs, ◌+ℤ◌}
use Rattle.integers.specs.Code.{fit, code_bounds, ringm, code_shapes}
use Rattle.lists.specs.Stored.{stored}
use Rattle.distances.specs.DistanceLaws.{agreement_most}
use Rattle.lent_checks.specs.LentDistances.{agreement_word}
use Rattle.lent_checks.proofs.distance.agreement_word.Goals as goal

sum_is : (a b : ℤ) → nat_abs a ≤ 17 → nat_abs b ≤ 100000 → stored (stored a +ℤ stored b) ≡ a +ℤ b
sum_is a b h k = ringm (a ∷ b ∷ []) (search code_shapes depth 12) tt

pub overflow_add-result : goal.overflow_add-result
overflow_add-result c =
    let number_small : nat_abs c.number.result ≤ 17 = subst (λ (z : ℤ). nat_abs z ≤ 17) (sym c.number.ensures) (agreement_most c.args.answer) in
    let unknown-small : nat_abs (pos (256 * c.unknown.result)) ≤ 100000 = let h : 256 * c.unknown.result ≤ 100000 = omega (arith, c.unknown.ensures, c.requires) in h in
    let h = number_small in let k = unknown-small in fit (search code_bounds depth 12) tt

pub returns : goal.returns
unfolding agreement_word
returns c =
    let number_small : nat_abs c.number.result ≤ 17 = subst (λ (z : ℤ). nat_abs z ≤ 17) (sym c.number.ensures) (agreement_most c.args.answer) in
    let unknown-small : nat_abs (pos (256 * c.unknown.result)) ≤ 100000 = let h : 256 * c.unknown.result ≤ 100000 = omega (arith, c.unknown.ensures, c.requires) in h in
    sum_is c.number.result (pos (256 * c.unknown.result)) number_small unknown-small
    ∙ ap₂ (λ (a : ℤ) (k : ℕ). a +ℤ pos (256 * k)) c.number.ensures c.unknown.ensures
