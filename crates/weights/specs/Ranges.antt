-- What the range tests of weights say, as bounds, and the sizes of the determinant and the adjugate that follow. Assumes nothing.
use Rattle.std.specs.Prelude.{◌≤◌, ◌≡◌, true, [], ◌∷◌, ℤ, pos, nat_abs, ◌-ℤ◌, ◌*ℤ◌, ◌≤ℤ◌}
use Rattle.std.proofs.Common.{leb-true, lit≤}
use Rattle.std.specs.Int.Signed.{le_z}
use Rattle.integers.specs.Bounds.{bounds, absle}
use Rattle.words.specs.Bools.{and_left}
use Rattle.words.specs.SignedLaws.{between-size}
use Rattle.lists.specs.All.{each, passed}
use Rattle.weights.specs.Rules.{weight_fits, off_diagonal_fits, weights_in_range, determinant}
use Rattle.weights.specs.declared.WeightMatrix.{WeightMatrix}

-- a weight on the diagonal, or alone
pub record Weight (v : ℤ) : Type 0 where
  pub least : pos 1 ≤ℤ v
  pub most : nat_abs v ≤ 10000

pub record WeightsRange (w : WeightMatrix) : Type 0 where
  pub ee : Weight w.ee
  pub nn : Weight w.nn
  pub uu : Weight w.uu
  pub en : nat_abs w.en ≤ 10000
  pub eu : nat_abs w.eu ≤ 10000
  pub nu : nat_abs w.nu ≤ 10000

-- the sizes alone, which keep every product within 64 bits
pub record SmallWeights (w : WeightMatrix) : Type 0 where
  pub ee : nat_abs w.ee ≤ 10000
  pub en : nat_abs w.en ≤ 10000
  pub eu : nat_abs w.eu ≤ 10000
  pub nn : nat_abs w.nn ≤ 10000
  pub nu : nat_abs w.nu ≤ 10000
  pub uu : nat_abs w.uu ≤ 10000

pub weight_range : (v : ℤ) → weight_fits v ≡ true → Weight v
weight_range v e = record { least = record { le = passed (le_z (pos 1) v) (and_left (le_z (pos 1) v) (le_z v (pos 10000)) e) }; most = between-size 1 10000 v e }

pub weights_range : (w : WeightMatrix) → weights_in_range w ≡ true → WeightsRange w
unfolding weights_in_range
weights_range w e =
    let t = each
    (weight_fits w.ee ∷ weight_fits w.nn ∷ weight_fits w.uu
    ∷ off_diagonal_fits w.en ∷ off_diagonal_fits w.eu ∷ off_diagonal_fits w.nu ∷ []) e in
    record {
      ee = weight_range w.ee t.0;
      nn = weight_range w.nn t.1.0;
      uu = weight_range w.uu t.1.1.0;
      en = leb-true (nat_abs w.en) 10000 t.1.1.1.0;
      eu = leb-true (nat_abs w.eu) 10000 t.1.1.1.1.0;
      nu = leb-true (nat_abs w.nu) 10000 t.1.1.1.1.1.0;
    }

pub small-weights : {w : WeightMatrix} → WeightsRange w → SmallWeights w
small-weights r = record { ee = r.ee.most; en = r.en; eu = r.eu; nn = r.nn.most; nu = r.nu; uu = r.uu.most }

-- ════ sizes
pub minor_small : (a b c d : ℤ) → nat_abs a ≤ 10000 → nat_abs b ≤ 10000 → nat_abs c ≤ 10000 → nat_abs d ≤ 10000 → nat_abs (a *ℤ b -ℤ c *ℤ d) ≤ 200000000
minor_small a b c d ha hb hc hd = absle (a *ℤ b -ℤ c *ℤ d) (search bounds) (lit≤ tt)

pub determinant-small : (w : WeightMatrix) → SmallWeights w → nat_abs (determinant w) ≤ 6000000000000
determinant-small w s =
    let ee = s.ee in
    let en = s.en in
    let eu = s.eu in
    let nn = s.nn in
    let nu = s.nu in
    let uu = s.uu in
    absle (determinant w) (search bounds depth 12) (lit≤ tt)
