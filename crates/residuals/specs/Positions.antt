-- What document 02, request 5, says of a position, in its words: the definitions that range over every kind of record give it. `at` is the component a of its station, as the station list counts
-- them. Assumes nothing.
use Rattle.std.specs.Prelude.{ℕ, ◌+◌, ◌*◌, ◌<◌, ◌≡◌, false, List, [], ◌∷◌, ℤ, pos, ◌+ℤ◌, ◌-ℤ◌, ◌*ℤ◌}
use Rattle.std.proofs.Math.Path.{refl, ap}
use Rattle.std.proofs.Common.{◌∙◌, arith}
use Rattle.std.proofs.Math.ListN.{get_or}
use Rattle.integers.specs.Solvers.{ring, shapes}
use Rattle.integers.specs.Tables.{get_d_tabulate}
use Rattle.words.specs.Signed.{index_in}
use Rattle.network.specs.Stations.{station_at, unknown_in, coordinate, coordinates}
use Rattle.network.specs.StationLaws.{unknown-at}
use Rattle.network.specs.Records.{observations, acts_of, acts, from_of, to_of, joins, reduced, misclosure_at, misclosure_in, l}
use Rattle.network.specs.RecordLaws.{misclosure_at_lem}
use Rattle.network.specs.declared.Kind.TheVariants.{Known, Free, Height}
use Rattle.network.specs.declared.Station.{Station}
use Rattle.network.specs.declared.Position.{Position}
use Rattle.network.specs.declared.Record.TheVariants.{Position as position}
use Rattle.normals.specs.Formulas.{A, is_unknown}
use Rattle.residuals.specs.Residuals.{residual, correction, variance, difference_variance, observation_variance, residual_variance, unknown_at_end, in_adjustment, share_d}
use Rattle.residuals.specs.Components.{A-sum}

abbrev at : Position → ℕ → ℕ
at p a = index_in p.station 32 * 3 + a

-- "three observed coordinates"
abbrev observed : Position → ℕ → ℤ
observed p a = get_or (p.east ∷ p.north ∷ p.up ∷ []) a (pos 0)

-- what stands at a from end, where there is none
no_from : (t f : ℤ) → t -ℤ pos 0 *ℤ f ≡ t
no_from t f = ring (t ∷ f ∷ []) (search shapes) tt

no_covariances : (s f t u : ℤ) → s +ℤ pos 0 *ℤ (f -ℤ t -ℤ u) ≡ s
no_covariances s f t u = ring (s ∷ f ∷ t ∷ u ∷ []) (search shapes) tt

module _ (st : List Station) (p : Position) where
  -- "Its misclosure is observed minus provisional"
  pub position_misclosure : (a : ℕ) → a < 3 → index_in p.station 32 < 32 → l st (position p) a ≡ observed p a -ℤ coordinate st (at p a)
  unfolding misclosure_in misclosure_at acts acts_of observations reduced from_of to_of joins
  position_misclosure a h s =
      misclosure_at_lem (coordinates st) (position p) a h
      ∙ ap (λ (z : ℤ). observed p a -ℤ z) (no_from (get_or (coordinates st) (at p a) (pos 0)) (get_or (coordinates st) (at p a) (pos 0)) ∙ get_d_tabulate 96 (coordinate st) (at p a) (pos 0) (omega arith))

  -- "its coefficient in A is +1", "only for unknowns"
  pub position_coefficient : (a i : ℕ) → A st (position p) a i ≡ is_unknown st (at p a) i
  unfolding A acts acts_of observations from_of to_of joins
  position_coefficient a i = no_from (is_unknown st (at p a) i) (is_unknown st (at p a) i)

  -- so the correction of its station is taken from the misclosure
  pub position-residual : (x : List ℤ) (a : ℕ) → at p a < 96 → residual st x (position p) a ≡ l st (position p) a -ℤ correction st x (at p a)
  unfolding residual correction acts acts_of observations from_of to_of joins
  position-residual x a h =
      ap (λ (z : ℤ). l st (position p) a -ℤ z) (A-sum st (λ i. get_or x i (pos 0)) (position p) a refl h h ∙ no_from (correction st x (at p a)) (correction st x (at p a)))

  -- "The local test subtracts M_ss alone"
  pub position-variance : (m : List ℤ) (a : ℕ) → residual_variance st m (position p) a ≡ observation_variance (position p) a -ℤ variance st m (at p a)
  unfolding residual_variance difference_variance from_of to_of joins
  position-variance m a =
      let s = variance st m (at p a) in
      ap (λ (z : ℤ). observation_variance (position p) a -ℤ z) (no_covariances s s s s)

  -- "it adds 3 to D"; "A position record at a known station falls under CR 2"
  pub position-at_known : (station_at st (index_in p.station 32)).kind ≡ Known → in_adjustment st (position p) ≡ false
  unfolding in_adjustment unknown_at_end acts acts_of observations from_of to_of unknown_in
  position-at_known e =
      let s = index_in p.station 32 in
      rw (unknown-at st s 0 (omega arith), unknown-at st s 1 (omega arith), unknown-at st s 2 (omega arith), e) refl

  pub position-at_height : (station_at st (index_in p.station 32)).kind ≡ Height → share_d st (position p) ≡ 3
  unfolding share_d in_adjustment unknown_at_end acts acts_of observations from_of to_of unknown_in
  position-at_height e =
      let s = index_in p.station 32 in
      rw (unknown-at st s 0 (omega arith), unknown-at st s 1 (omega arith), unknown-at st s 2 (omega arith), e) refl

  pub position-at-free : (station_at st (index_in p.station 32)).kind ≡ Free → share_d st (position p) ≡ 3
  unfolding share_d in_adjustment unknown_at_end acts acts_of observations from_of to_of unknown_in
  position-at-free e =
      let s = index_in p.station 32 in
      rw (unknown-at st s 0 (omega arith), unknown-at st s 1 (omega arith), unknown-at st s 2 (omega arith), e) refl
