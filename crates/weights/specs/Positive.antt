-- An accepted weight matrix is positive definite: its leading minors and the diagonal of its adjugate are positive. Assumes nothing.
use Rattle.std.specs.Prelude.{◌≡◌, true, List, [], ◌∷◌, ℤ, pos, ◌+ℤ◌, ◌-ℤ◌, ◌*ℤ◌, ◌≤ℤ◌, ◌<ℤ◌}
use Rattle.std.proofs.Common.{sym, subst, ⊎_elim}
use Rattle.std.specs.Int.Signed.{le_z, lt_z, clash_ℤ}
use Rattle.integers.specs.Laws.{*ℤ_idl}
use Rattle.integers.specs.Solvers.{ring, shapes, zlt, ltz, lez}
use Rattle.integers.specs.Order.{zarith, ≤ℤ_or, <ℤ→≤ℤ, *ℤ_mono, sq_nonneg}
use Rattle.lists.specs.All.{each, passed}
use Rattle.weights.specs.Rules.{adjugate_e, adjugate_n, adjugate_u, determinant, minors_positive, adjugate_fits, matrix_fits}
use Rattle.weights.specs.declared.WeightMatrix.{WeightMatrix}
use Rattle.words.specs.Bools.{and_left, and_right}

-- what "All three leading minors positive, and each diagonal entry of its adjugate at most 16 times its determinant" gives
pub record PositiveMatrix (w : WeightMatrix) : Type 0 where
  pub first : pos 0 <ℤ w.ee
  pub second : pos 0 <ℤ adjugate_u w
  pub third : pos 0 <ℤ determinant w
  pub positive_e : pos 0 <ℤ adjugate_e w
  pub positive_n : pos 0 <ℤ adjugate_n w
  pub bound_e : adjugate_e w ≤ℤ (pos 16 *ℤ determinant w)
  pub bound_n : adjugate_n w ≤ℤ (pos 16 *ℤ determinant w)
  pub bound_u : adjugate_u w ≤ℤ (pos 16 *ℤ determinant w)

-- ════ signs
one : {a : ℤ} → pos 0 <ℤ a → pos 1 ≤ℤ a
one h = omega (zarith, h)

product_positive : (a b : ℤ) → pos 0 <ℤ a → pos 0 <ℤ b → pos 0 <ℤ (a *ℤ b)
product_positive a b p q =
    let h : (pos 1 *ℤ b) ≤ℤ (a *ℤ b) = *ℤ_mono (<ℤ→≤ℤ q) (one p) in
    let k : b ≤ℤ (a *ℤ b) = subst (λ (z : ℤ). z ≤ℤ (a *ℤ b)) (*ℤ_idl b) h in
    omega (zarith, k, q)

pub factor_positive : (a b : ℤ) → pos 0 <ℤ a → pos 0 <ℤ (a *ℤ b) → pos 0 <ℤ b
factor_positive a b p q = ⊎_elim (λ h. clash_ℤ q (low h)) (λ h. h) (≤ℤ_or b (pos 0))
  where
    low : b ≤ℤ pos 0 → (a *ℤ b) ≤ℤ pos 0
    low h =
        let k : (b *ℤ a) ≤ℤ (pos 0 *ℤ a) = *ℤ_mono (<ℤ→≤ℤ p) h in
        let e : b *ℤ a ≡ a *ℤ b = ring (a ∷ b ∷ []) (search shapes) tt in
        let f : pos 0 *ℤ a ≡ pos 0 = ring (a ∷ []) (search shapes) tt in
        subst (λ (z : ℤ). z ≤ℤ pos 0) e (subst (λ (z : ℤ). (b *ℤ a) ≤ℤ z) f k)

more-positive : (p q : ℤ) → pos 0 <ℤ p → pos 0 ≤ℤ q → pos 0 <ℤ (p +ℤ q)
more-positive p q h k = zlt (p ∷ q ∷ []) (search shapes) (omega (zarith, ltz (p ∷ q ∷ []) (search shapes) h, lez (p ∷ q ∷ []) (search shapes) k))

-- m·x = w·d + s², with m, w and d positive: x is positive
cofactor_positive : (m x w d s : ℤ) → pos 0 <ℤ m → pos 0 <ℤ w → pos 0 <ℤ d → m *ℤ x ≡ w *ℤ d +ℤ s *ℤ s → pos 0 <ℤ x
cofactor_positive m x w d s hm hw hd e =
    factor_positive m x hm (subst (λ (z : ℤ). pos 0 <ℤ z) (sym e) (more-positive (w *ℤ d) (s *ℤ s) (product_positive w d hw hd) (sq_nonneg s)))

-- the six weights, as the unknowns of identities
abbrev pub six : WeightMatrix → List ℤ
six w = w.ee ∷ w.en ∷ w.eu ∷ w.nn ∷ w.nu ∷ w.uu ∷ []

-- the minors of the adjugate are the entries times the determinant
minor_E : (w : WeightMatrix) → adjugate_u w *ℤ adjugate_e w ≡ w.nn *ℤ determinant w +ℤ (w.en *ℤ w.nu -ℤ w.nn *ℤ w.eu) *ℤ (w.en *ℤ w.nu -ℤ w.nn *ℤ w.eu)
minor_E w = ring (six w) (search shapes depth 20) tt

minor_N : (w : WeightMatrix) → adjugate_u w *ℤ adjugate_n w ≡ w.ee *ℤ determinant w +ℤ (w.ee *ℤ w.nu -ℤ w.en *ℤ w.eu) *ℤ (w.ee *ℤ w.nu -ℤ w.en *ℤ w.eu)
minor_N w = ring (six w) (search shapes depth 20) tt

-- ════ the rules
pub positive_matrix : (w : WeightMatrix) → pos 0 <ℤ w.nn → matrix_fits w ≡ true → PositiveMatrix w
unfolding matrix_fits minors_positive adjugate_fits
positive_matrix w nn e =
    let d = pos 16 *ℤ determinant w in
    let m = each (lt_z (pos 0) w.ee ∷ lt_z (pos 0) (adjugate_u w) ∷ lt_z (pos 0) (determinant w) ∷ []) (and_left (minors_positive w) (adjugate_fits w) e) in
    let a = each (le_z (adjugate_e w) d ∷ le_z (adjugate_n w) d ∷ le_z (adjugate_u w) d ∷ []) (and_right (minors_positive w) (adjugate_fits w) e) in
    let first : pos 0 <ℤ w.ee = record { lt = passed (lt_z (pos 0) w.ee) m.0 } in
    let second : pos 0 <ℤ adjugate_u w = record { lt = passed (lt_z (pos 0) (adjugate_u w)) m.1.0 } in
    let third : pos 0 <ℤ determinant w = record { lt = passed (lt_z (pos 0) (determinant w)) m.1.1.0 } in
    record {
      first = first;
      second = second;
      third = third;
      positive_e = cofactor_positive (adjugate_u w) (adjugate_e w) w.nn (determinant w) (w.en *ℤ w.nu -ℤ w.nn *ℤ w.eu) second nn third (minor_E w);
      positive_n = cofactor_positive (adjugate_u w) (adjugate_n w) w.ee (determinant w) (w.ee *ℤ w.nu -ℤ w.en *ℤ w.eu) second first third (minor_N w);
      bound_e = record { le = passed (le_z (adjugate_e w) d) a.0 };
      bound_n = record { le = passed (le_z (adjugate_n w) d) a.1.0 };
      bound_u = record { le = passed (le_z (adjugate_u w) d) a.1.1.0 };
    }
