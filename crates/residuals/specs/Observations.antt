-- The observed components of a record as the local test takes them, and their verdicts over the tables of components. Assumes nothing.
use Prim.Native.Nat.{ℕ, zero, suc, ◌+◌, ◌*◌, ◌<◌, ◌≤◌}
use Rattle.std.specs.Prelude.{◌≡◌, Bool, cond, get_or, ℤ, nat_abs, ◌-ℤ◌, ◌*ℤ◌}
use Rattle.std.proofs.Math.Path.{refl}
use Rattle.std.proofs.Math.Bool.{true, false}
use mathlib.Core.List.{List, [], ◌∷◌}
use Rattle.std.proofs.Common.{arith}
use borrow.Author.Tests.{eqb-true}
use Rattle.std.proofs.Math.Dec.{eqb}
use Rattle.std.proofs.Math.IntN.{pos}
use Rattle.integers.specs.Division.{floor_div}
use Rattle.words.specs.Bools.{clash}
use Rattle.weights.specs.Quotients.{Quotient, MatrixQuotients}
use Rattle.weights.specs.Rules.{adjugate_e, adjugate_n, adjugate_u, adjugate, determinant}
use Rattle.weights.specs.declared.WeightMatrix.{WeightMatrix}
use Rattle.weights.specs.declared.adjugate.Adjugate.{Adjugate}
use Rattle.network.specs.Records.{weight_matrix_of, acts, acts_of, observations, is_empty, from_of, to_of, joins}
use Rattle.network.specs.declared.Record.{Record}
use Rattle.integers.specs.Inverses.{S}
use Rattle.residuals.specs.Residuals.{weights_variance, observation_variance}
use Rattle.residuals.specs.Verdicts.{verdict_word, local_verdict}
use Rattle.residuals.specs.Components.{difference_in}
use Rattle.residuals.specs.declared.Observation.{Observation}

-- ════ the adjugate of a record's weights
-- its diagonal entry in component a
unfoldable pub adjugate_entry : Adjugate → ℕ → ℤ
adjugate_entry w a = cond (eqb a 0) w.east (cond (eqb a 1) w.north w.up)

entry_same : (z d : ℤ) (a : ℕ) → adjugate_entry (record { east = z; north = z; up = z; determinant = d }) a ≡ z
unfolding adjugate_entry
entry_same z d a = go (eqb a 0) (eqb a 1)
  where
    go : (s t : Bool) → cond s z (cond t z z) ≡ z
    go true t = refl
    go false true = refl
    go false false = refl

entries : (w : Adjugate) (m : WeightMatrix) → w.east ≡ adjugate_e m → w.north ≡ adjugate_n m → w.up ≡ adjugate_u m → (a : ℕ) → adjugate_entry w a ≡ adjugate m a
unfolding adjugate_entry adjugate
entries w m e n u a = rw (e, n, u)

-- S times an entry over the determinant is the variance of that observation
pub record Divided (r : Record) (w : Adjugate) : Type 0 where
  pub quotient : (a : ℕ) → Quotient (adjugate_entry w a) w.determinant
  pub variance : (a : ℕ) → observation_variance r a ≡ floor_div (S *ℤ adjugate_entry w a) (nat_abs w.determinant)

-- of a matrix by the rules
matrix_quotient : (m : WeightMatrix) → MatrixQuotients m → (a : ℕ) → Quotient (adjugate m a) (determinant m)
unfolding adjugate
matrix_quotient m q a = go (eqb a 0) (eqb a 1)
  where
    go : (s t : Bool) → Quotient (cond s (adjugate_e m) (cond t (adjugate_n m) (adjugate_u m))) (determinant m)
    go true t = q.east
    go false true = q.north
    go false false = q.up

more-weights : (n : ℕ) (w : WeightMatrix) (a : ℕ) → (n ≡ 0 → ⊥) → (n ≡ 1 → ⊥) → weights_variance n w a ≡ floor_div (S *ℤ adjugate w a) (nat_abs (determinant w))
unfolding weights_variance
more-weights zero w a p q = absurd (p refl)
more-weights (suc zero) w a p q = absurd (q refl)
more-weights (suc (suc n)) w a p q = refl

pub matrix_divided : (r : Record) (w : Adjugate) → (observations r ≡ 0 → ⊥) → (observations r ≡ 1 → ⊥) → MatrixQuotients (weight_matrix_of r)
    → w.east ≡ adjugate_e (weight_matrix_of r) → w.north ≡ adjugate_n (weight_matrix_of r) → w.up ≡ adjugate_u (weight_matrix_of r) → w.determinant ≡ determinant (weight_matrix_of r)
    → Divided r w
unfolding observation_variance
matrix_divided r w p o q e n u d =
    record {
      quotient = λ a. rw (entry_is a, d) (matrix_quotient (weight_matrix_of r) q a);
      variance = λ a. rw (entry_is a, d) (more-weights (observations r) (weight_matrix_of r) a p o);
    }
  where
    entry_is : (a : ℕ) → adjugate_entry w a ≡ adjugate (weight_matrix_of r) a
    entry_is a = entries w (weight_matrix_of r) e n u a

-- of one quotient for every component
pub single_divided : {r : Record} {z d : ℤ} → Quotient z d → ((a : ℕ) → observation_variance r a ≡ floor_div (S *ℤ z) (nat_abs d))
    → Divided r (record { east = z; north = z; up = z; determinant = d })
single_divided {z} {d} q v =
    record {
      quotient = λ a. rw (entry_same z d a) q;
      variance = λ a. rw (entry_same z d a) (v a);
    }

-- ════ an observation
-- what its test asks of it
pub record Testable (o : Observation) : Type 0 where
  pub small : nat_abs o.residual ≤ 300000
  pub quotient : Quotient o.adjugate o.determinant
  pub at-to : o.to < 96
  pub at_from : o.from < 96
  pub joined : nat_abs o.joins ≤ 1

-- it is component a of a record, with the residual v
pub record Observes (r : Record) (a : ℕ) (v : ℤ) (o : Observation) : Type 0 where
  pub residual-is : o.residual ≡ v
  pub variance-is : observation_variance r a ≡ floor_div (S *ℤ o.adjugate) (nat_abs o.determinant)
  pub to_is : o.to ≡ to_of r * 3 + a
  pub from_is : o.from ≡ from_of r * 3 + a
  pub joins-is : o.joins ≡ joins r
  pub testable : Testable o

-- ════ verdicts, as words
module _ (numbers : List ℕ) (unknowns m : List ℤ) (n : ℕ) where
  -- of an observation
  unfoldable pub verdict_of : Observation → ℤ
  verdict_of o = verdict_word (local_verdict o.residual (floor_div (S *ℤ o.adjugate) (nat_abs o.determinant) -ℤ difference_in numbers unknowns m n o.to o.from o.joins))

  -- of a record in component a, with the residual v
  unfoldable pub verdict_in : Record → ℕ → ℤ → ℤ
  verdict_in r a v = verdict_word (local_verdict v (observation_variance r a -ℤ difference_in numbers unknowns m n (to_of r * 3 + a) (from_of r * 3 + a) (joins r)))

  pub observed-verdict : {r : Record} {a : ℕ} {v : ℤ} {o : Observation} → Observes r a v o → verdict_of o ≡ verdict_in r a v
  unfolding verdict_of verdict_in
  observed-verdict w = rw (w.residual-is, w.variance-is, w.to_is, w.from_is, w.joins-is)

  -- of a record that observes so many components in E, N, U, with the residuals v; 0 where it does not act
  unfoldable pub verdicts_over : ℕ → Record → List ℤ → List ℤ
  verdicts_over zero r v = pos 0 ∷ pos 0 ∷ pos 0 ∷ []
  verdicts_over (suc zero) r v = pos 0 ∷ pos 0 ∷ verdict_in r 2 (get_or v 2 (pos 0)) ∷ []
  verdicts_over (suc (suc n)) r v = verdict_in r 0 (get_or v 0 (pos 0)) ∷ verdict_in r 1 (get_or v 1 (pos 0)) ∷ verdict_in r 2 (get_or v 2 (pos 0)) ∷ []

  unfoldable pub verdicts_in : Record → List ℤ → List ℤ
  verdicts_in r v = verdicts_over (observations r) r v

  -- by the shape of the record
  pub verdicts_none : (r : Record) (v : List ℤ) → is_empty r ≡ true → pos 0 ∷ pos 0 ∷ pos 0 ∷ [] ≡ verdicts_in r v
  unfolding verdicts_in verdicts_over is_empty
  verdicts_none r v e = go (observations r) e
    where
      go : (n : ℕ) → eqb n 0 ≡ true → pos 0 ∷ pos 0 ∷ pos 0 ∷ [] ≡ verdicts_over n r v
      go zero e = refl
      go (suc n) e = let z = eqb-true (suc n) 0 e in absurd (omega arith)

  pub verdicts_three : (r : Record) (v : List ℤ) → acts 0 r ≡ true → verdict_in r 0 (get_or v 0 (pos 0)) ∷ verdict_in r 1 (get_or v 1 (pos 0)) ∷ verdict_in r 2 (get_or v 2 (pos 0)) ∷ [] ≡ verdicts_in r v
  unfolding verdicts_in verdicts_over acts acts_of
  verdicts_three r v e = go (observations r) e
    where
      go : (n : ℕ) → acts_of n 0 ≡ true → verdict_in r 0 (get_or v 0 (pos 0)) ∷ verdict_in r 1 (get_or v 1 (pos 0)) ∷ verdict_in r 2 (get_or v 2 (pos 0)) ∷ [] ≡ verdicts_over n r v
      go zero e = clash e refl
      go (suc zero) e = clash e refl
      go (suc (suc n)) e = refl

  pub verdicts_up : (r : Record) (v : List ℤ) → is_empty r ≡ false → acts 0 r ≡ false → pos 0 ∷ pos 0 ∷ verdict_in r 2 (get_or v 2 (pos 0)) ∷ [] ≡ verdicts_in r v
  unfolding verdicts_in verdicts_over is_empty acts acts_of
  verdicts_up r v e f = go (observations r) e f
    where
      go : (n : ℕ) → eqb n 0 ≡ false → acts_of n 0 ≡ false → pos 0 ∷ pos 0 ∷ verdict_in r 2 (get_or v 2 (pos 0)) ∷ [] ≡ verdicts_over n r v
      go zero e f = clash refl e
      go (suc zero) e f = refl
      go (suc (suc n)) e f = clash refl f
