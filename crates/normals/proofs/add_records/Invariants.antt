-- `add_records`, place by place. The loop's invariant: n and u are those of the places passed; one place more is `first_n-more`, `first_u-more`. Assumes nothing.
use Prim.Native.Nat.{ℕ}
use mathlib.Core.Path.{◌≡◌}
use mathlib.Core.List.{List}
use lib.IntN.{ℤ}
use Rattle.network.specs.Stations.{unknown_table, index_table, coordinates}
use Rattle.network.specs.Places.{places_in}
use Rattle.network.specs.declared.Network.{Network}
use Rattle.network.specs.declared.Place.{Place}
use Rattle.normals.specs.ByRules.{ByRules}
use Rattle.normals.specs.FirstPlaces.{first_n, first_u}
use Rattle.normals.proofs.add_records.Given as goal

-- of the network that the tables are of, which the code no longer holds
abbrev pub Holds : List Place → List ℕ → List ℤ → List ℤ → List ℤ → List ℤ → ℕ → Type 0
Holds places at un co n u p =
    (net : Network) → ByRules net places → at ≡ index_table net.stations → un ≡ unknown_table net.stations → co ≡ coordinates net.stations
    → (n ≡ first_n net.stations places p) × (u ≡ first_u net.stations places p)

abbrev pub invariant-loop-p : goal.invariant-loop-p
invariant-loop-p l = Holds (places_in l.places) l.at l.unknown l.coordinate l.n l.u l.p
