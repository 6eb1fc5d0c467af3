-- The rules on a symmetric 3×3 weight matrix: document 01, "Records". Assumes nothing.
use Rattle.std.specs.Prelude.{ℕ, Bool, cond, ◌&&◌, List, [], ◌∷◌, eqb, leb, ℤ, pos, nat_abs, ◌+ℤ◌, ◌-ℤ◌, ◌*ℤ◌}
use Rattle.std.specs.Int.Signed.{le_z, lt_z}
use Rattle.weights.specs.declared.WeightMatrix.{WeightMatrix}

-- ════ the matrix by rows
abbrev pub matrix_rows : WeightMatrix → List ℤ
matrix_rows w = w.ee ∷ w.en ∷ w.eu ∷ w.en ∷ w.nn ∷ w.nu ∷ w.eu ∷ w.nu ∷ w.uu ∷ []

-- ════ "Diagonal and single weights 1 to 10,000; off-diagonals within ±10,000"
abbrev pub weight_fits : ℤ → Bool
weight_fits v = le_z (pos 1) v && le_z v (pos 10000)

abbrev pub off_diagonal_fits : ℤ → Bool
off_diagonal_fits v = leb (nat_abs v) 10000

unfoldable pub weights_in_range : WeightMatrix → Bool
weights_in_range w =
    weight_fits w.ee && weight_fits w.nn && weight_fits w.uu
    && off_diagonal_fits w.en && off_diagonal_fits w.eu && off_diagonal_fits w.nu

-- ════ "A matrix needs all three leading minors positive, and each diagonal entry of its adjugate at most 16 times its determinant"
-- the diagonal of the adjugate
abbrev pub adjugate_e : WeightMatrix → ℤ
adjugate_e w = w.nn *ℤ w.uu -ℤ w.nu *ℤ w.nu

abbrev pub adjugate_n : WeightMatrix → ℤ
adjugate_n w = w.ee *ℤ w.uu -ℤ w.eu *ℤ w.eu

abbrev pub adjugate_u : WeightMatrix → ℤ
adjugate_u w = w.ee *ℤ w.nn -ℤ w.en *ℤ w.en

-- the same by component: 0 E, 1 N, 2 U
unfoldable pub adjugate : WeightMatrix → ℕ → ℤ
adjugate w a = cond (eqb a 0) (adjugate_e w) (cond (eqb a 1) (adjugate_n w) (adjugate_u w))

-- the leading minors are ee, ee·nn − en², and the determinant, here by the first row
abbrev pub determinant : WeightMatrix → ℤ
determinant w =
    w.ee *ℤ (w.nn *ℤ w.uu -ℤ w.nu *ℤ w.nu) -ℤ w.en *ℤ (w.en *ℤ w.uu -ℤ w.nu *ℤ w.eu) +ℤ w.eu *ℤ (w.en *ℤ w.nu -ℤ w.nn *ℤ w.eu)

unfoldable pub minors_positive : WeightMatrix → Bool
minors_positive w = lt_z (pos 0) w.ee && lt_z (pos 0) (w.ee *ℤ w.nn -ℤ w.en *ℤ w.en) && lt_z (pos 0) (determinant w)

unfoldable pub adjugate_fits : WeightMatrix → Bool
adjugate_fits w =
    le_z (adjugate_e w) (pos 16 *ℤ determinant w) && le_z (adjugate_n w) (pos 16 *ℤ determinant w) && le_z (adjugate_u w) (pos 16 *ℤ determinant w)

unfoldable pub matrix_fits : WeightMatrix → Bool
matrix_fits w = minors_positive w && adjugate_fits w
