-- The coordinates of marks over tables of the 96 components, as the code holds them: each is what Distances says of the station list. Assumes nothing.
use Rattle.std.specs.Prelude.{ℕ, ◌+◌, ◌*◌, ◌<◌, ◌≤◌, ◌≡◌, List, [], ◌∷◌, ℤ, nat_abs, ◌+ℤ◌}
use Rattle.std.proofs.Math.Path.{ap₂}
use Rattle.std.proofs.Common.{subst, arith}
use Rattle.std.proofs.Math.IntN.{◌-ℤ◌}
use Rattle.integers.specs.Bounds.{bounds, absle}
use Rattle.integers.specs.Solvers.{ring, shapes}
use Rattle.words.specs.Signed.{index_in}
use Rattle.network.specs.Stations.{coordinate, coordinates}
use Rattle.network.specs.RuleLaws.{sound-stations}
use Rattle.network.specs.declared.Network.{Network}
use Rattle.network.specs.declared.Station.{Station}
use Rattle.residuals.specs.Residuals.{correction}
use Rattle.residuals.specs.Components.{corrections_of, adjusted_in, adjusted_in_lem}
use Rattle.residuals.specs.Ranges.{Moved, corrections_within}
use Rattle.distances.specs.Distances.{square, squared_distance, mark}
use Rattle.distances.specs.declared.CheckDistance.{CheckDistance}

-- component c, station t minus station f, both counted from 0
unfoldable pub separation_in : List ℤ → List ℤ → ℕ → ℕ → ℕ → ℤ
separation_in coordinate correction f t c = adjusted_in coordinate correction (t * 3 + c) -ℤ adjusted_in coordinate correction (f * 3 + c)

-- the squared distance between them, the U difference taken plus `rise`
unfoldable pub squared_distance_in : List ℤ → List ℤ → ℕ → ℕ → ℤ → ℤ
squared_distance_in coordinate correction f t rise =
    square (separation_in coordinate correction f t 0) +ℤ square (separation_in coordinate correction f t 1) +ℤ square (separation_in coordinate correction f t 2 +ℤ rise)

module _ (stations : List Station) (x : List ℤ) where
  -- the difference between the stations numbered a and b
  separation_in_lem : (a b : ℤ) (c : ℕ) → index_in a 32 < 32 → index_in b 32 < 32 → c < 3
      → separation_in (coordinates stations) (corrections_of stations x) (index_in a 32) (index_in b 32) c ≡ mark stations x b c -ℤ mark stations x a c
  unfolding separation_in mark
  separation_in_lem a b c h k l = ap₂ ◌-ℤ◌ (adjusted_in_lem stations x (index_in b 32 * 3 + c) (omega arith)) (adjusted_in_lem stations x (index_in a 32 * 3 + c) (omega arith))

  pub squared_distance_in_lem : (d : CheckDistance) → index_in d.from 32 < 32 → index_in d.to 32 < 32
      → squared_distance_in (coordinates stations) (corrections_of stations x) (index_in d.from 32) (index_in d.to 32) (d.target -ℤ d.instrument)
      ≡ squared_distance d (mark stations x d.from) (mark stations x d.to)
  unfolding squared_distance_in squared_distance
  squared_distance_in_lem d h k =
      let a = mark stations x d.from in
      let b = mark stations x d.to in
      let same : (c : ℕ) → c < 3 → separation_in (coordinates stations) (corrections_of stations x) (index_in d.from 32) (index_in d.to 32) c ≡ b c -ℤ a c =
      λ c l. separation_in_lem d.from d.to c h k l in
      rw (same 0 (omega arith), same 1 (omega arith), same 2 (omega arith))
      (ring (b 0 ∷ a 0 ∷ b 1 ∷ a 1 ∷ b 2 ∷ a 2 ∷ d.target ∷ d.instrument ∷ []) (search shapes depth 12) tt)

-- the size of a coordinate
pub mark-small : {net : Network} {x : List ℤ} → Moved net x → (k : ℤ) (c : ℕ) → index_in k 32 < 32 → c < 3 → nat_abs (mark net.stations x k c) ≤ 500100000
unfolding mark
mark-small {net} {x} g k c h l =
    let q = index_in k 32 * 3 + c in
    let a = (sound-stations net g.network).provisional.bound q in
    let b = (corrections_within g).bound q in
    subst (λ (z : ℤ). nat_abs z ≤ 500100000) (adjusted_in_lem net.stations x q (omega arith))
    (absle (adjusted_in (coordinates net.stations) (corrections_of net.stations x) q) (search bounds) (omega arith))
