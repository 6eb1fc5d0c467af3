-- The exact inverse P⁻¹ of a record's weights, on the components in which it acts: whole numbers Q over p. Every record by the rules has one. Assumes nothing.
use Rattle.std.specs.Prelude.{ℕ, zero, suc, ◌+◌, ◌*◌, ◌<◌, ◌≡◌, refl, true, false, ◌⊎◌, [], ◌∷◌, get_or, ℤ, pos, nat_abs, ◌+ℤ◌, ◌*ℤ◌}
use Rattle.std.proofs.Common.{sym, ap, ◌∙◌, inl, inr, arith, eqb-true, lit<}
use Rattle.std.proofs.Math.IntN.{zero-*ℤ, *ℤ-zero, *ℤ_comm}
use Rattle.integers.specs.Solvers.{ring, shapes}
use Rattle.integers.specs.Sums.{sum, sum-ext, sum_0, δ, δ_other, δ_sym, sum-δ, mat_assoc}
use Rattle.integers.specs.Division.{floor_div}
use Rattle.words.specs.Bools.{clash, true_or_false}
use Rattle.weights.specs.Rules.{matrix_rows, adjugate, determinant}
use Rattle.weights.specs.declared.WeightMatrix.{WeightMatrix}
use Rattle.weights.specs.Quotients.{divisor, divisor_some}
use Rattle.weights.specs.Inverse.{adjugate_at, adjugate-inverse}
use Rattle.network.specs.Records.{weight_matrix_of, acts, weights, observations, acts_of}
use Rattle.network.specs.Rules.{record_fits}
use Rattle.network.specs.declared.Network.{Network}
use Rattle.network.specs.declared.Record.{Record}
use Rattle.normals.specs.Formulas.{P}
use Rattle.normals.specs.Symmetry.{P_sym}
use Rattle.normals.specs.Acting.{P_not_acting}
use Rattle.integers.specs.Inverses.{S}
use Rattle.residuals.specs.Residuals.{weights_variance, observation_variance}
use Rattle.residuals.specs.Weights.{WeightQuotients, record_quotients}

-- PQ = p·I where the record acts: of a matrix the whole of it, of a single weight weight·Q_UU = p
pub record InverseWeights (r : Record) (Q : ℕ → ℕ → ℤ) (p : ℕ) : Type 0 where
  pub positive : 0 < p
  pub inverse : (a b : ℕ) → a < 3 → b < 3 → acts a r ≡ true → acts b r ≡ true → sum 3 (λ c. P r a c *ℤ Q c b) ≡ pos p *ℤ δ a b

-- ════ every record by the rules has one: the adjugate of a matrix over its determinant, or 1 over a single weight
-- by the number of components that it observes
unfoldable pub adjugate_over : ℕ → WeightMatrix → ℕ → ℕ → ℤ
adjugate_over zero w a c = pos 0
adjugate_over (suc zero) w a c = pos 1
adjugate_over (suc (suc n)) w a c = adjugate_at w a c

unfoldable pub determinant_over : ℕ → WeightMatrix → ℕ
determinant_over zero w = 1
determinant_over (suc zero) w = nat_abs w.uu
determinant_over (suc (suc n)) w = nat_abs (determinant w)

abbrev pub weight_adjugate : Record → ℕ → ℕ → ℤ
weight_adjugate r = adjugate_over (observations r) (weight_matrix_of r)

abbrev pub weight_determinant : Record → ℕ
weight_determinant r = determinant_over (observations r) (weight_matrix_of r)

-- a row of the weights times a column, in a component in which they act
single_inverse : (w : WeightMatrix) (a b : ℕ) → a ≡ 2 → b ≡ 2 → w.eu ≡ pos 0 → w.nu ≡ pos 0
    → sum 3 (λ c. get_or (matrix_rows w) (a * 3 + c) (pos 0) *ℤ pos 1) ≡ w.uu *ℤ δ a b
unfolding sum
single_inverse w a b p q e n = rw (p, q) (added w.eu w.nu e n)
  where
    added : (x y : ℤ) → x ≡ pos 0 → y ≡ pos 0 → pos 0 +ℤ x *ℤ pos 1 +ℤ y *ℤ pos 1 +ℤ w.uu *ℤ pos 1 ≡ w.uu *ℤ pos 1
    added x y d f = rw (d, f) (ring (w.uu ∷ []) (search shapes depth 12) tt)

pub inverse-weights : (net : Network) (r : Record) → record_fits net r ≡ true → InverseWeights r (weight_adjugate r) (weight_determinant r)
unfolding adjugate_over determinant_over weights acts acts_of
inverse-weights net r e = go (observations r) refl (record_quotients net r e)
  where
    go : (n : ℕ) → observations r ≡ n → WeightQuotients n (weight_matrix_of r) → InverseWeights r (adjugate_over n (weight_matrix_of r)) (determinant_over n (weight_matrix_of r))
    go zero o g = record { positive = lit< tt; inverse = λ a b p q d d'. clash (rw o at d) refl }
    go (suc zero) o g =
        record {
          positive = divisor_some g;
          inverse = λ a b p q d d'.
              single_inverse (weight_matrix_of r) a b (eqb-true a 2 (rw o at d)) (eqb-true b 2 (rw o at d')) (P_not_acting r 0 2 (lit< tt) (lit< tt) (rw o refl)) (P_not_acting r 1 2 (lit< tt) (lit< tt) (rw o refl))
              ∙ ap (λ (z : ℤ). z *ℤ δ a b) (sym (divisor g));
        }
    go (suc (suc n)) o g =
        let w = g.east in
        record { positive = divisor_some w; inverse = λ a b p q d d'. adjugate-inverse (weight_matrix_of r) a b p q ∙ ap (λ (z : ℤ). z *ℤ δ a b) (sym (divisor w)) }

-- q's quotient, floor(S·adj/det), is of its diagonal
quotient_over : (n : ℕ) (w : WeightMatrix) (a : ℕ) → a < 3 → acts_of n a ≡ true → weights_variance n w a ≡ floor_div (S *ℤ adjugate_over n w a a) (determinant_over n w)
unfolding acts_of weights_variance adjugate adjugate_at adjugate_over determinant_over
quotient_over zero w a h e = clash e refl
quotient_over (suc zero) w a h e = refl
quotient_over (suc (suc n)) w zero h e = refl
quotient_over (suc (suc n)) w (suc zero) h e = refl
quotient_over (suc (suc n)) w (suc (suc zero)) h e = refl
quotient_over (suc (suc n)) w (suc (suc (suc a))) h e = absurd (omega arith)

pub observation_quotient : (r : Record) (a : ℕ) → a < 3 → acts a r ≡ true → observation_variance r a ≡ floor_div (S *ℤ weight_adjugate r a a) (weight_determinant r)
unfolding acts observation_variance
observation_quotient r a h e = quotient_over (observations r) (weight_matrix_of r) a h e

-- ════ any two of one record are in proportion
module _ (r : Record) {Q : ℕ → ℕ → ℤ} {p : ℕ} (g : InverseWeights r Q p) where
  -- in a component in which the record does not act the row of P is 0
  all_rows : (a b : ℕ) → a < 3 → b < 3 → acts b r ≡ true → sum 3 (λ c. P r a c *ℤ Q c b) ≡ pos p *ℤ δ a b
  all_rows a b k h e = go (true_or_false (acts a r))
    where
      go : (acts a r ≡ true) ⊎ (acts a r ≡ false) → sum 3 (λ c. P r a c *ℤ Q c b) ≡ pos p *ℤ δ a b
      go (inl d) = g.inverse a b k h d e
      go (inr d) =
          sum-ext 3 (λ c o. ap (λ (z : ℤ). z *ℤ Q c b) (P_not_acting r a c k o d) ∙ zero-*ℤ (Q c b))
          ∙ sum_0 3
          ∙ sym (ap (λ (z : ℤ). pos p *ℤ z) (δ_other a b (λ q. clash (ap (λ (c : ℕ). acts c r) q ∙ e) d)) ∙ *ℤ-zero (pos p))

-- Σ_c Σ_d Q'_ca P_cd Q_da by rows and by columns
pub proportional : (r : Record) {Q Q' : ℕ → ℕ → ℤ} {p p' : ℕ} → InverseWeights r Q p → InverseWeights r Q' p' → (a : ℕ) → a < 3 → acts a r ≡ true
    → pos p *ℤ Q' a a ≡ pos p' *ℤ Q a a
proportional r {Q} {Q'} {p} {p'} g g' a h e =
    sym (sum-δ 3 a (λ c. pos p *ℤ Q' c a) h)
    ∙ sum-ext 3 (λ c o. ap (λ (z : ℤ). z *ℤ (pos p *ℤ Q' c a)) (δ_sym a c) ∙ ring (δ c a ∷ pos p ∷ Q' c a ∷ []) (search shapes) tt
    ∙ ap (λ (z : ℤ). Q' c a *ℤ z) (sym (all_rows r g c a o h e)))
    ∙ mat_assoc 3 3 (λ i k. Q' k i) (P r) (λ d. Q d a) a
    ∙ sum-ext 3 (λ d o.
    ap (λ (z : ℤ). z *ℤ Q d a)
    (sum-ext 3 (λ c k. *ℤ_comm (Q' c a) (P r c d) ∙ ap (λ (z : ℤ). z *ℤ Q' c a) (P_sym r c d k o)) ∙ all_rows r g' d a o h e)
    ∙ ap (λ (z : ℤ). pos p' *ℤ z *ℤ Q d a) (δ_sym d a) ∙ ring (pos p' ∷ δ a d ∷ Q d a ∷ []) (search shapes) tt)
    ∙ sum-δ 3 a (λ d. pos p' *ℤ Q d a) h
