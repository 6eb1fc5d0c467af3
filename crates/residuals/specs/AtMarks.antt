-- A record taken to the marks has the residuals, the variances and the share in T and D of the record itself. Assumes nothing.
use Rattle.std.specs.Prelude.{ℕ, ◌≡◌, List, ℤ}
use Rattle.std.proofs.Math.Path.{refl, fun_ext}
use Rattle.network.specs.Records.{is_empty}
use Rattle.network.specs.Stations.{coordinates}
use Rattle.network.specs.AtMarks.{at_marks, marks_observations, marks_acts, marks_from, marks_to, marks_joins, marks_matrix, marks_weights, marks_misclosures}
use Rattle.network.specs.declared.Station.{Station}
use Rattle.network.specs.declared.Record.{Record}
use Rattle.normals.specs.AtMarks.{marks_A}
use Rattle.residuals.specs.Residuals.{residual, unknown_at_end, in_adjustment, weighted_squares, share_t, share_d, is_record, observation_variance, difference_variance, residual_variance}

pub marks_record : (r : Record) → is_record (at_marks r) ≡ is_record r
unfolding is_record is_empty
marks_record r = rw (marks_observations r) refl

observation_at_marks : (r : Record) (a : ℕ) → observation_variance (at_marks r) a ≡ observation_variance r a
unfolding observation_variance
observation_at_marks r a = rw (marks_observations r, marks_matrix r) refl

module _ (stations : List Station) (r : Record) where
  pub marks_variance : (m : List ℤ) (a : ℕ) → residual_variance stations m (at_marks r) a ≡ residual_variance stations m r a
  unfolding residual_variance difference_variance
  marks_variance m a = rw (observation_at_marks r a, marks_from r, marks_to r, marks_joins r) refl

  in_at_marks : in_adjustment stations (at_marks r) ≡ in_adjustment stations r
  unfolding in_adjustment unknown_at_end
  in_at_marks = rw (marks_acts 0 r, marks_acts 1 r, marks_acts 2 r, marks_from r, marks_to r) refl

  pub marks_share_d : share_d stations (at_marks r) ≡ share_d stations r
  unfolding share_d
  marks_share_d = rw (in_at_marks, marks_observations r) refl

  module _ (x : List ℤ) where
    pub marks_residual : (a : ℕ) → residual stations x (at_marks r) a ≡ residual stations x r a
    unfolding residual
    marks_residual a = rw (marks_A stations r, marks_misclosures (coordinates stations) r) refl

    squares-at_marks : weighted_squares stations x (at_marks r) ≡ weighted_squares stations x r
    unfolding weighted_squares
    squares-at_marks = rw (fun_ext marks_residual, marks_weights r) refl

    pub marks_share_t : share_t stations x (at_marks r) ≡ share_t stations x r
    unfolding share_t
    marks_share_t = rw (in_at_marks, squares-at_marks) refl
