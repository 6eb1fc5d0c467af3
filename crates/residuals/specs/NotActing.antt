-- In a component in which a record does not act ("baselines act in E, N, U; height differences in U only") its row of A is 0, its weights are 0 and its residual is 0. Assumes nothing.
use Rattle.std.specs.Prelude.{ℕ, ◌<◌, ◌≡◌, false, List, [], ◌∷◌, get_or, ℤ, pos, ◌-ℤ◌, ◌*ℤ◌}
use Rattle.std.proofs.Common.{ap, ◌∙◌}
use Rattle.std.proofs.Math.IntN.{zero-*ℤ}
use Rattle.integers.specs.Solvers.{ring, shapes}
use Rattle.integers.specs.Sums.{sum-ext, sum_0}
use Rattle.network.specs.Stations.{unknown_count}
use Rattle.network.specs.Records.{acts, l}
use Rattle.network.specs.declared.Station.{Station}
use Rattle.network.specs.declared.Record.{Record}
use Rattle.normals.specs.Formulas.{A, P}
use Rattle.normals.specs.Symmetry.{P_sym}
use Rattle.normals.specs.Acting.{A_not_acting, P_not_acting, l_not_acting}
use Rattle.residuals.specs.Residuals.{residual}

-- where its row of A is 0, a record's residual is its misclosure, whatever the corrections are
pub row_zero_residual : (stations : List Station) (r : Record) (a : ℕ) → ((i : ℕ) → A stations r a i ≡ pos 0) → (x : List ℤ) → residual stations x r a ≡ l stations r a
unfolding residual
row_zero_residual stations r a none x =
    ap (λ (z : ℤ). l stations r a -ℤ z)
    (sum-ext (unknown_count stations) (λ i o. ap (λ (z : ℤ). z *ℤ get_or x i (pos 0)) (none i) ∙ zero-*ℤ (get_or x i (pos 0))) ∙ sum_0 (unknown_count stations))
    ∙ ring (l stations r a ∷ []) (search shapes) tt

pub record NotActing (stations : List Station) (r : Record) (a : ℕ) : Type 0 where
  pub coefficients : (i : ℕ) → A stations r a i ≡ pos 0
  pub weights : (b : ℕ) → b < 3 → (P r a b ≡ pos 0) × (P r b a ≡ pos 0)
  pub residuals : (x : List ℤ) → residual stations x r a ≡ pos 0

pub not_acting : (stations : List Station) (r : Record) (a : ℕ) → a < 3 → acts a r ≡ false → NotActing stations r a
not_acting stations r a h e =
    record {
      coefficients = none;
      weights = λ b k. (P_not_acting r a b h k e, P_sym r b a k h ∙ P_not_acting r a b h k e);
      residuals = λ x. row_zero_residual stations r a none x ∙ l_not_acting stations r a h e;
    }
  where
    none : (i : ℕ) → A stations r a i ≡ pos 0
    none i = A_not_acting stations r a i e
