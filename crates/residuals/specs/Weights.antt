-- The weights of a record by the rules, as the code of its variances asks for them. Assumes nothing.
use Rattle.std.specs.Prelude.{ℕ, zero, suc, ◌≤◌, ◌^◌, ◌≡◌, true, [], ◌∷◌, ℤ, pos, neg_ℤ, nat_abs, ◌*ℤ◌, ◌≤ℤ◌}
use Rattle.std.proofs.Common.{sym, ap, ◌∙◌, subst, arith}
use Rattle.std.proofs.Math.IntN.{zero-*ℤ}
use Rattle.std.specs.Int.Signed.{quot_z}
use Rattle.integers.specs.Solvers.{shapes, zle, lez}
use Rattle.integers.specs.Order.{*ℤ_mono, *ℤ_nonneg, ≤ℤ_trans, between-abs}
use Rattle.integers.specs.Division.{floor_div, floor_div_mono, floor_div_multiple, floor_div_quot, ≤-floor_div}
use Rattle.weights.specs.Quotients.{Quotient, divisor, divisor_some, weight_quotient, MatrixQuotients, matrix_quotients}
use Rattle.network.specs.Rules.{record_fits}
use Rattle.weights.specs.declared.WeightMatrix.{WeightMatrix}
use Rattle.network.specs.Records.{weight_matrix_of, observations}
use Rattle.network.specs.RuleLaws.{WeightsByRules, weights_by_rules}
use Rattle.network.specs.declared.Network.{Network}
use Rattle.network.specs.declared.Record.{Record}
use Rattle.integers.specs.Inverses.{S}

-- ════ the variance of an observation, from an entry of the adjugate and the determinant
module _ {adj det : ℤ} (q : Quotient adj det) where
  dividend : pos 0 ≤ℤ (S *ℤ adj)
  dividend = *ℤ_nonneg {a = S} {b = adj} (record { le = tt }) q.above

  -- it is at most 16 S
  most : (S *ℤ adj) ≤ℤ (pos (2 ^ 34) *ℤ pos (nat_abs det))
  most =
      let h : (adj *ℤ S) ≤ℤ (pos 16 *ℤ det *ℤ S) = *ℤ_mono {a = adj} {b = pos 16 *ℤ det} {c = S} (record { le = tt }) q.bounded in
      let ρ = adj ∷ det ∷ [] in
      subst (λ (d : ℤ). (S *ℤ adj) ≤ℤ (pos (2 ^ 34) *ℤ d)) (sym (divisor q)) (zle ρ (search shapes) (omega (arith, lez ρ (search shapes) h)))

  pub observation_size : nat_abs (floor_div (S *ℤ adj) (nat_abs det)) ≤ 2 ^ 34
  observation_size =
      let d = nat_abs det in
      let low : pos 0 ≤ℤ floor_div (S *ℤ adj) d = ≤-floor_div (S *ℤ adj) (pos 0) d (divisor_some q) (rw (zero-*ℤ (pos d)) dividend) in
      let high : floor_div (S *ℤ adj) d ≤ℤ pos (2 ^ 34) = rw (floor_div_multiple (pos (2 ^ 34)) d (divisor_some q)) at (floor_div_mono d (divisor_some q) most) in
      let below : neg_ℤ (pos (2 ^ 34)) ≤ℤ floor_div (S *ℤ adj) d = ≤ℤ_trans {a = neg_ℤ (pos (2 ^ 34))} {b = pos 0} (record { le = tt }) low in
      between-abs below high

  -- as the machine divides
  pub quotient : floor_div (S *ℤ adj) (nat_abs det) ≡ quot_z (S *ℤ adj) det
  quotient = floor_div_quot (nat_abs det) dividend ∙ ap (λ (d : ℤ). quot_z (S *ℤ adj) d) (divisor q)

-- ════ a record by the rules: its weights are by the rules
-- the three quotients of a matrix, or the one of a single weight
abbrev pub WeightQuotients : ℕ → WeightMatrix → Type 0
WeightQuotients zero w = Unit {0}
WeightQuotients (suc zero) w = Quotient (pos 1) w.uu
WeightQuotients (suc (suc n)) w = MatrixQuotients w

abbrev pub RecordWeights : Record → Type 0
RecordWeights r = WeightQuotients (observations r) (weight_matrix_of r)

quotients : (n : ℕ) (w : WeightMatrix) → WeightsByRules n w → WeightQuotients n w
quotients zero w g = tt
quotients (suc zero) w g = weight_quotient g
quotients (suc (suc n)) w g = matrix_quotients w g.0 g.1

pub record_quotients : (net : Network) (r : Record) → record_fits net r ≡ true → RecordWeights r
record_quotients net r e = quotients (observations r) (weight_matrix_of r) (weights_by_rules net r e)
