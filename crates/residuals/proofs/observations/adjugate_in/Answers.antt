-- By the number of components that the record observes: `single_divided` where there is no weight or one, `matrix_divided` for a matrix. Assumes nothing.
use native.Mathlib.Omega.{arith}
use Prim.Native.Nat.{ℕ, zero, suc}
use mathlib.Core.Path.{◌≡◌, refl, sym, ap, ◌∙◌, subst}
use lib.Dec.{lit<, lit≤}
use lib.IntN.{pos}
use Rattle.integers.specs.Division.{floor_div_multiple}
use Rattle.lists.specs.Stored.{back}
use Rattle.weights.specs.Quotients.{Quotient, MatrixQuotients}
use Rattle.weights.specs.Ranges.{SmallWeights}
use Rattle.weights.specs.declared.WeightMatrix.{WeightMatrix}
use Rattle.network.specs.Records.{weight_matrix_of, observations}
use Rattle.residuals.specs.Residuals.{weights_variance, observation_variance}
use Rattle.residuals.specs.Weights.{WeightQuotients}
use Rattle.residuals.specs.Observations.{matrix_divided, single_divided}
use Rattle.residuals.proofs.observations.adjugate_in.Goals as goal

none : Quotient (pos 0) (pos 1)
none = record { above = record { le = tt }; small = lit≤ tt; positive = record { lt = tt }; size = lit≤ tt; bounded = record { le = tt } }

-- a record that observes more than one component has a matrix
more : (n : ℕ) (w : WeightMatrix) → (n ≡ 0 → ⊥) → (n ≡ 1 → ⊥) → WeightQuotients n w → MatrixQuotients w
more zero w p q g = absurd (p refl)
more (suc zero) w p q g = absurd (q refl)
more (suc (suc n)) w p q g = g

pub adjugate_of-requires : goal.adjugate_of-requires
adjugate_of-requires c =
    let some : observations c.args.r ≡ 0 → ⊥ = λ e. let h = c.observations_of.ensures ∙ e in omega arith in
    let not-one : observations c.args.r ≡ 1 → ⊥ = λ e. let h = c.observations_of.ensures ∙ e in omega arith in
    let matrix : MatrixQuotients (weight_matrix_of c.args.r) = more _ _ some not-one c.requires in
    subst SmallWeights (sym c.weight_matrix_of-w.ensures) matrix.small

pub returns-in-0 : goal.returns-in-0
unfolding observation_variance weights_variance
returns-in-0 c =
    let r = c.args.r in
    let e : observations r ≡ 0 = sym c.observations_of.ensures ∙ c.in-0.is in
    single_divided none (λ a. ap (λ (n : ℕ). weights_variance n (weight_matrix_of r) a) e ∙ sym (floor_div_multiple (pos 0) 1 (lit< tt)))

pub returns-in-1 : goal.returns-in-1
unfolding observation_variance weights_variance
returns-in-1 c =
    let w = weight_matrix_of c.args.r in
    let e : observations c.args.r ≡ 1 = sym c.observations_of.ensures ∙ c.in-1.is in
    let q : Quotient (pos 1) w.uu = subst (λ (n : ℕ). WeightQuotients n w) e c.requires in
    rw (ap (λ (m : WeightMatrix). m.uu) c.weight_matrix_of-w.ensures, back w.uu q.size tt) (single_divided q (λ a. ap (λ (n : ℕ). weights_variance n w a) e))

pub returns-in_default : goal.returns-in_default
returns-in_default c =
    let some : observations c.args.r ≡ 0 → ⊥ = λ e. let h = c.observations_of.ensures ∙ e in omega arith in
    let not-one : observations c.args.r ≡ 1 → ⊥ = λ e. let h = c.observations_of.ensures ∙ e in omega arith in
    let matrix : MatrixQuotients (weight_matrix_of c.args.r) = more _ _ some not-one c.requires in
    let w = rw c.weight_matrix_of-w.ensures at c.adjugate_of.ensures in
    matrix_divided c.args.r c.adjugate_of.result some not-one matrix w.0 w.1 w.2 w.3
