-- An entry of the adjugate over the determinant, as the code of a variance asks for it; and the three of a matrix by the rules. Assumes nothing.
use Rattle.std.specs.Prelude.{◌<◌, ◌≤◌, ◌^◌, ◌≡◌, [], ◌∷◌, ℤ, pos, nat_abs, ◌*ℤ◌, ◌≤ℤ◌, ◌<ℤ◌}
use Rattle.std.proofs.Common.{subst, arith, le_trans, lit≤, of_z}
use Rattle.std.specs.Int.{w64}
use Rattle.integers.specs.Solvers.{shapes, zle, lez}
use Rattle.integers.specs.Order.{zarith, pos-abs, <ℤ→≤ℤ}
use Rattle.weights.specs.Rules.{adjugate_e, adjugate_n, adjugate_u, determinant}
use Rattle.weights.specs.Ranges.{Weight, WeightsRange, SmallWeights, small-weights, minor_small, determinant-small}
use Rattle.weights.specs.Positive.{PositiveMatrix}
use Rattle.weights.specs.declared.WeightMatrix.{WeightMatrix}

pub record Quotient (adj det : ℤ) : Type 0 where
  pub above : pos 0 ≤ℤ adj
  pub small : nat_abs adj ≤ 200000000
  pub positive : pos 0 <ℤ det
  pub size : nat_abs det ≤ 2 ^ 43
  pub bounded : adj ≤ℤ (pos 16 *ℤ det)

module _ {adj det : ℤ} (q : Quotient adj det) where
  pub divisor : pos (nat_abs det) ≡ det
  divisor = pos-abs (<ℤ→≤ℤ q.positive)

  pub divisor_some : 0 < nat_abs det
  divisor_some = let p : pos 0 <ℤ pos (nat_abs det) = rw divisor q.positive in omega zarith

  -- as the machine's division asks it
  pub divisor-bits : 0 < of_z w64 det
  divisor-bits = subst (λ (d : ℤ). 0 < of_z w64 d) divisor divisor_some

-- ════ of a single weight, 1 over it
pub weight_quotient : {v : ℤ} → Weight v → Quotient (pos 1) v
weight_quotient {v} g =
    let one = g.least in
    record {
      above = record { le = tt };
      small = lit≤ tt;
      positive = omega zarith;
      size = le_trans g.most (lit≤ tt);
      bounded = let ρ = v ∷ [] in zle ρ (search shapes) (omega (arith, lez ρ (search shapes) one));
    }

-- ════ of a matrix by the rules
pub record MatrixQuotients (w : WeightMatrix) : Type 0 where
  pub small : SmallWeights w
  pub east : Quotient (adjugate_e w) (determinant w)
  pub north : Quotient (adjugate_n w) (determinant w)
  pub up : Quotient (adjugate_u w) (determinant w)

pub matrix_quotients : (w : WeightMatrix) → WeightsRange w → PositiveMatrix w → MatrixQuotients w
matrix_quotients w r m =
    let s = small-weights r in
    let d : nat_abs (determinant w) ≤ 2 ^ 43 = le_trans (determinant-small w s) (lit≤ tt) in
    record {
      small = s;
      east = record {
        above = <ℤ→≤ℤ m.positive_e;
        small = minor_small w.nn w.uu w.nu w.nu s.nn s.uu s.nu s.nu;
        positive = m.third;
        size = d;
        bounded = m.bound_e;
      };
      north = record {
        above = <ℤ→≤ℤ m.positive_n;
        small = minor_small w.ee w.uu w.eu w.eu s.ee s.uu s.eu s.eu;
        positive = m.third;
        size = d;
        bounded = m.bound_n;
      };
      up = record {
        above = <ℤ→≤ℤ m.second;
        small = minor_small w.ee w.nn w.en w.en s.ee s.nn s.en s.en;
        positive = m.third;
        size = d;
        bounded = m.bound_u;
      };
    }
