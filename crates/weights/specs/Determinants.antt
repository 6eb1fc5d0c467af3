-- The determinant of a matrix by the rules is at most 10,000 times each diagonal entry of its adjugate. Assumes nothing.
use Rattle.std.specs.Prelude.{◌≡◌, [], ◌∷◌, ℤ, pos, ◌+ℤ◌, ◌-ℤ◌, ◌*ℤ◌, ◌≤ℤ◌, ◌<ℤ◌}
use Rattle.std.proofs.Common.{subst}
use Rattle.integers.specs.Solvers.{ring, shapes, zle, lez, zlt, ltz}
use Rattle.integers.specs.Order.{zarith, pos-abs, <ℤ→≤ℤ, +ℤ_mono, *ℤ_mono, *ℤ_nonneg, sq_nonneg, pos_mono}
use Rattle.weights.specs.Rules.{adjugate_e, adjugate_n, adjugate_u, determinant}
use Rattle.weights.specs.Ranges.{Weight, WeightsRange}
use Rattle.weights.specs.Positive.{PositiveMatrix, factor_positive, six}
use Rattle.weights.specs.declared.WeightMatrix.{WeightMatrix}

factor_nonneg : (m x : ℤ) → pos 0 <ℤ m → pos 0 ≤ℤ (m *ℤ x) → pos 0 ≤ℤ x
factor_nonneg m x p h =
    let ρ = m ∷ x ∷ [] in
    let k = factor_positive m (x +ℤ pos 1) p (zlt ρ (search shapes) (omega (zarith, ltz ρ (search shapes) p, lez ρ (search shapes) h))) in
    zle (x ∷ []) (search shapes) (omega (zarith, ltz (x ∷ []) (search shapes) k))

-- a weight is from 1 to 10,000
pub weight_some : {v : ℤ} → Weight v → pos 0 <ℤ v
weight_some g = let h = g.least in omega (zarith, h)

pub weight_most : {v : ℤ} → Weight v → v ≤ℤ pos 10000
weight_most g = subst (λ (y : ℤ). y ≤ℤ pos 10000) (pos-abs (<ℤ→≤ℤ (weight_some g))) (pos_mono g.most)

-- m·(v·a − d) = s² + a·z², with m and a positive: d is at most v·a
determinant_most : (v a m s z d : ℤ) → Weight v → pos 0 <ℤ a → pos 0 <ℤ m → m *ℤ (v *ℤ a -ℤ d) ≡ s *ℤ s +ℤ a *ℤ (z *ℤ z) → d ≤ℤ (pos 10000 *ℤ a)
determinant_most v a m s z d g ha hm e =
    let square : pos 0 ≤ℤ (s *ℤ s +ℤ a *ℤ (z *ℤ z)) = +ℤ_mono {a = pos 0} {c = pos 0} (sq_nonneg s) (*ℤ_nonneg (<ℤ→≤ℤ ha) (sq_nonneg z)) in
    let left = factor_nonneg m (v *ℤ a -ℤ d) hm (rw e square) in
    let high : (v *ℤ a) ≤ℤ (pos 10000 *ℤ a) = *ℤ_mono (<ℤ→≤ℤ ha) (weight_most g) in
    let ρ = v ∷ a ∷ d ∷ [] in
    zle ρ (search shapes) (omega (zarith, lez ρ (search shapes) left, lez ρ (search shapes) high))

module _ (w : WeightMatrix) (g : WeightsRange w) (m : PositiveMatrix w) where
  pub determinant-E : determinant w ≤ℤ (pos 10000 *ℤ adjugate_e w)
  determinant-E =
      determinant_most w.ee (adjugate_e w) w.nn (w.nn *ℤ w.eu -ℤ w.nu *ℤ w.en) w.en (determinant w)
      g.ee m.positive_e (weight_some g.nn) (ring (six w) (search shapes depth 20) tt)

  pub determinant-N : determinant w ≤ℤ (pos 10000 *ℤ adjugate_n w)
  determinant-N =
      determinant_most w.nn (adjugate_n w) w.ee (w.ee *ℤ w.nu -ℤ w.eu *ℤ w.en) w.en (determinant w)
      g.nn m.positive_n (weight_some g.ee) (ring (six w) (search shapes depth 20) tt)

  pub determinant-U : determinant w ≤ℤ (pos 10000 *ℤ adjugate_u w)
  determinant-U =
      determinant_most w.uu (adjugate_u w) w.ee (w.ee *ℤ w.nu -ℤ w.en *ℤ w.eu) w.eu (determinant w)
      g.uu m.second (weight_some g.ee) (ring (six w) (search shapes depth 20) tt)
