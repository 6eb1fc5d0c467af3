-- A record taken to the marks has the share in N and u of the record itself. Assumes nothing.
use Rattle.std.specs.Prelude.{ℕ, ◌≡◌, List}
use Rattle.std.proofs.Math.Path.{refl, fun_ext}
use Rattle.network.specs.Stations.{coordinates}
use Rattle.network.specs.AtMarks.{at_marks, marks_acts, marks_from, marks_to, marks_joins, marks_weights, marks_misclosures}
use Rattle.network.specs.declared.Station.{Station}
use Rattle.network.specs.declared.Record.{Record}
use Rattle.normals.specs.Formulas.{A, share_n, share_u}

module _ (stations : List Station) (r : Record) where
  entry_at_marks : (a i : ℕ) → A stations (at_marks r) a i ≡ A stations r a i
  unfolding A
  entry_at_marks a i = rw (marks_acts a r, marks_from r, marks_to r, marks_joins r) refl

  pub marks_A : A stations (at_marks r) ≡ A stations r
  marks_A = fun_ext (λ a. fun_ext (entry_at_marks a))

  pub marks_share_n : (i j : ℕ) → share_n stations (at_marks r) i j ≡ share_n stations r i j
  unfolding share_n
  marks_share_n i j = rw (marks_A, marks_weights r) refl

  pub marks_share_u : (i : ℕ) → share_u stations (at_marks r) i ≡ share_u stations r i
  unfolding share_u
  marks_share_u i = rw (marks_A, marks_weights r, marks_misclosures (coordinates stations) r) refl
