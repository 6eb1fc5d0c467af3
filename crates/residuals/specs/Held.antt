-- Held components do not move: "Coordinates: provisional plus correction. Variance of an unknown …; 0 for a held component." Assumes nothing.
use Rattle.std.specs.Prelude.{ℕ, ◌+◌, ◌*◌, ◌≡◌, List, [], ◌∷◌, get_or, ℤ, ◌+ℤ◌, ◌*ℤ◌}
use Rattle.std.proofs.Math.IntN.{pos}
use Rattle.integers.specs.Solvers.{ring, shapes}
use Rattle.network.specs.Stations.{unknown, number, unknown_count, coordinate}
use Rattle.network.specs.declared.Station.{Station}
use Rattle.residuals.specs.Residuals.{adjusted, correction, covariance, variance}

module _ (stations : List Station) (q : ℕ) (held : unknown stations q ≡ 0) where
  pub held_stays : (x : List ℤ) → adjusted stations x q ≡ coordinate stations q
  unfolding adjusted correction
  held_stays x = rw held (nothing_added (coordinate stations q) (get_or x (number stations q) (pos 0)))
    where
      nothing_added : (c z : ℤ) → c +ℤ pos 0 *ℤ z ≡ c
      nothing_added c z = ring (c ∷ z ∷ []) (search shapes depth 12) tt

  pub held_covariance : (m : List ℤ) (k : ℕ) → covariance stations m q k ≡ pos 0
  unfolding covariance
  held_covariance m k = rw held (nothing_times (pos (unknown stations k)) (get_or m (number stations q * unknown_count stations + number stations k) (pos 0)))
    where
      nothing_times : (y z : ℤ) → pos 0 *ℤ y *ℤ z ≡ pos 0
      nothing_times y z = ring (y ∷ z ∷ []) (search shapes depth 12) tt

  pub held_exact : (m : List ℤ) → variance stations m q ≡ pos 0
  held_exact m = held_covariance m q
