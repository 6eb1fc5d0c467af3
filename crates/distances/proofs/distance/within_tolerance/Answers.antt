-- Distance and tolerance are small, so the two squares fit and are those of the definition (`near-is`, `far-is`). Assumes nothing.
use Prim.Native.Nat.{◌≤◌}
use mathlib.Core.Path.{◌≡◌}
use mathlib.Core.Bool.{◌&&◌}
use mathlib.Core.List.{[], ◌∷◌}
use lib.IntN.{ℤ, nat_abs, ◌+ℤ◌, ◌-ℤ◌, ◌*ℤ◌}
use lib.Signed.{le_z}
use mir.Syntax.{w64}
use mir.ValLaws.{to_z-of_z}
use Rattle.lists.specs.Stored.{stored}
use Rattle.integers.specs.Code.{fit, code_bounds, ringm, code_shapes}
use Rattle.distances.specs.Distances.{square, within_tolerance}
use Rattle.distances.proofs.distance.within_tolerance.Goals as goal

-- the squares as the code stores them
near-is : (s t : ℤ) → nat_abs s ≤ 1800000000 → nat_abs t ≤ 100000 → stored (stored (stored s -ℤ stored t) *ℤ stored (stored s -ℤ stored t)) ≡ square (s -ℤ t)
near-is s t h k = ringm (s ∷ t ∷ []) (search code_shapes depth 20) tt

far-is : (s t : ℤ) → nat_abs s ≤ 1800000000 → nat_abs t ≤ 100000 → stored (stored (stored s +ℤ stored t) *ℤ stored (stored s +ℤ stored t)) ≡ square (s +ℤ t)
far-is s t h k = ringm (s ∷ t ∷ []) (search code_shapes depth 20) tt

pub overflow_sub-near : goal.overflow_sub-near
overflow_sub-near c = let p = c.requires in fit (search code_bounds depth 12) tt

pub overflow_sub-near-2 : goal.overflow_sub-near-2
overflow_sub-near-2 c = let p = c.requires in fit (search code_bounds depth 12) tt

pub overflow_mul-near : goal.overflow_mul-near
overflow_mul-near c = let p = c.requires in fit (search code_bounds depth 12) tt

pub overflow_add-far : goal.overflow_add-far
overflow_add-far c = let p = c.requires in fit (search code_bounds depth 12) tt

pub overflow_add-far-2 : goal.overflow_add-far-2
overflow_add-far-2 c = let p = c.requires in fit (search code_bounds depth 12) tt

pub overflow_mul-far : goal.overflow_mul-far
overflow_mul-far c = let p = c.requires in fit (search code_bounds depth 12) tt

pub returns : goal.returns
unfolding within_tolerance
returns c =
    let p = c.requires in
    let a = c.args in
    (λ i.
    le_z (near-is a.s a.t p.0 p.1 i) (to_z-of_z w64 a.squared c.ranges.squared i)
    && le_z (to_z-of_z w64 a.squared c.ranges.squared i) (far-is a.s a.t p.0 p.1 i))
