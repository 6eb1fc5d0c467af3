-- The adjugate of a weight matrix, over its determinant, is its inverse. Assumes nothing.
use Rattle.std.specs.Prelude.{ℕ, zero, suc, ◌+◌, ◌*◌, ◌<◌, ◌≡◌, [], ◌∷◌, get_or, ℤ, pos, ◌-ℤ◌, ◌*ℤ◌}
use Rattle.std.proofs.Common.{arith}
use Rattle.integers.specs.Solvers.{ring, shapes}
use Rattle.integers.specs.Sums.{sum, δ}
use Rattle.weights.specs.Rules.{matrix_rows, adjugate_e, adjugate_n, adjugate_u, determinant}
use Rattle.weights.specs.Positive.{six}
use Rattle.weights.specs.declared.WeightMatrix.{WeightMatrix}

-- the whole adjugate, at row a and column c
unfoldable pub adjugate_at : WeightMatrix → ℕ → ℕ → ℤ
adjugate_at w a c = get_or (adjugate_e w ∷ en ∷ eu ∷ en ∷ adjugate_n w ∷ nu ∷ eu ∷ nu ∷ adjugate_u w ∷ []) (a * 3 + c) (pos 0)
  where
    en : ℤ
    en = w.nu *ℤ w.eu -ℤ w.en *ℤ w.uu

    eu : ℤ
    eu = w.en *ℤ w.nu -ℤ w.nn *ℤ w.eu

    nu : ℤ
    nu = w.en *ℤ w.eu -ℤ w.ee *ℤ w.nu

-- PQ = det·I
pub adjugate-inverse : (w : WeightMatrix) (a b : ℕ) → a < 3 → b < 3
    → sum 3 (λ c. get_or (matrix_rows w) (a * 3 + c) (pos 0) *ℤ adjugate_at w c b) ≡ determinant w *ℤ δ a b
unfolding sum adjugate_at
adjugate-inverse w zero zero p q = ring (six w) (search shapes depth 12) tt
adjugate-inverse w zero (suc zero) p q = ring (six w) (search shapes depth 12) tt
adjugate-inverse w zero (suc (suc zero)) p q = ring (six w) (search shapes depth 12) tt
adjugate-inverse w (suc zero) zero p q = ring (six w) (search shapes depth 12) tt
adjugate-inverse w (suc zero) (suc zero) p q = ring (six w) (search shapes depth 12) tt
adjugate-inverse w (suc zero) (suc (suc zero)) p q = ring (six w) (search shapes depth 12) tt
adjugate-inverse w (suc (suc zero)) zero p q = ring (six w) (search shapes depth 12) tt
adjugate-inverse w (suc (suc zero)) (suc zero) p q = ring (six w) (search shapes depth 12) tt
adjugate-inverse w (suc (suc zero)) (suc (suc zero)) p q = ring (six w) (search shapes depth 12) tt
adjugate-inverse w (suc (suc (suc a))) b p q = absurd (omega arith)
adjugate-inverse w zero (suc (suc (suc b))) p q = absurd (omega arith)
adjugate-inverse w (suc zero) (suc (suc (suc b))) p q = absurd (omega arith)
adjugate-inverse w (suc (suc zero)) (suc (suc (suc b))) p q = absurd (omega arith)
