-- The differences and the rise are small, so their sum fits (`up_is`); each is read back from its bits and squared. Assumes nothing.
use borrow.Author.Rules.{sfits_of}
use Prim.Native.Nat.{◌≤◌}
use mathlib.Core.Path.{◌≡◌, sym, ◌∙◌, subst}
use mathlib.Core.List.{[], ◌∷◌}
use lib.IntN.{ℤ, nat_abs, ◌+ℤ◌}
use native.Mathlib.Omega.{arith}
use mir.Syntax.{w64}
use mir.ValLaws.{to_z-of_z}
use Rattle.integers.specs.Bounds.{bounds, absle}
use Rattle.integers.specs.Code.{fit, code_bounds, ringm, code_shapes}
use Rattle.lists.specs.Stored.{stored, back, kept}
use Rattle.distances.specs.Distances.{square}
use Rattle.distances.specs.Coordinates.{squared_distance_in}
use Rattle.distances.proofs.comparison.squared_distance.Goals as goal

-- the U difference with the rise, as the code stores it
up_is : (u rise : ℤ) → nat_abs u ≤ 1000200000 → nat_abs rise ≤ 600000 → stored (stored u +ℤ stored rise) ≡ u +ℤ rise
up_is u rise h k = ringm (u ∷ rise ∷ []) (search code_shapes depth 12) tt

up_small : (u rise : ℤ) → nat_abs u ≤ 1000200000 → nat_abs rise ≤ 600000 → nat_abs (stored (stored u +ℤ stored rise)) ≤ 1000800000
up_small u rise h k = subst (λ (z : ℤ). nat_abs z ≤ 1000800000) (sym (up_is u rise h k)) (absle (u +ℤ rise) (search bounds) (omega arith))

pub overflow_add-u : goal.overflow_add-u
overflow_add-u c = let u = c.separation-u.ensures.1 in let r = c.requires.2 in fit (search code_bounds depth 12) tt

pub sum_of_squares-requires : goal.sum_of_squares-requires
sum_of_squares-requires c = (
  kept c.separation-e.result c.separation-e.ensures.1 tt,
  kept c.separation-n.result c.separation-n.ensures.1 tt,
  up_small c.separation-u.result c.args.rise c.separation-u.ensures.1 c.requires.2,
)

pub returns : goal.returns
unfolding squared_distance_in
returns c =
    let e = c.separation-e in
    let n = c.separation-n in
    let u = c.separation-u in
    to_z-of_z w64 c.sum_of_squares.result (sfits_of c.sum_of_squares.type_inv)
    ∙ c.sum_of_squares.ensures
    ∙ (λ i. square (back e.result e.ensures.1 tt i) +ℤ square (back n.result n.ensures.1 tt i) +ℤ square (up_is u.result c.args.rise u.ensures.1 c.requires.2 i))
    ∙ (λ i. square (e.ensures.0 i) +ℤ square (n.ensures.0 i) +ℤ square (u.ensures.0 i +ℤ c.args.rise))
