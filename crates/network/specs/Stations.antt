-- The station list: kinds, provisional coordinates and the numbers of the unknowns; what opening refuses with 1.
-- Component q of the list is component q % 3 (0 E, 1 N, 2 U) of station q / 3, stations counted from 0. Assumes nothing.
use Rattle.std.specs.Prelude.{ℕ, zero, suc, ◌+◌, ◌*◌, ◌/◌, ◌%◌, Bool, true, false, cond, ◌&&◌, ◌||◌, List, eqb, leb, ltb, get_or, length, ℤ, pos, nat_abs}
use Rattle.std.specs.Int.Signed.{le_z}
use Rattle.integers.specs.Sums.{sum_n}
use Rattle.integers.specs.Tables.{tabulate}
use Rattle.words.specs.Signed.{index_in, eq_z}
use Rattle.lists.specs.All.{all_below}
use Rattle.network.specs.Units.{most_stations, most_components, most_unknowns, most_coordinate}
use Rattle.network.specs.declared.Kind.{Kind}
use Rattle.network.specs.declared.Kind.TheVariants.{Known, Free, Height}
use Rattle.network.specs.declared.Station.{Station}
use Rattle.network.specs.declared.Network.{Network}

-- ════ a station
-- "Kinds: known (E, N, U held), free (all three unknown), height (U unknown; E, N held)": 1 where component c is unknown
unfoldable pub unknown_in : Kind → ℕ → ℕ
unknown_in Known c = 0
unknown_in Free c = 1
unknown_in Height c = cond (eqb c 2) 1 0

-- what stands in the list beyond its last station
abbrev pub blank_station : Station
blank_station = record { kind = Known; east = pos 0; north = pos 0; up = pos 0 }

abbrev pub station_at : List Station → ℕ → Station
station_at stations s = get_or stations s blank_station

-- ════ the unknowns: "corrections to provisional coordinates, by station number, then E, N, U"
-- 1 where component q is unknown
unfoldable pub unknown : List Station → ℕ → ℕ
unknown stations q = unknown_in (station_at stations (q / 3)).kind (q % 3)

-- the number of the unknown q, from 0: as many as there are before it
unfoldable pub number : List Station → ℕ → ℕ
number stations q = sum_n q (unknown stations)

-- how many unknowns there are
abbrev pub unknown_count : List Station → ℕ
unknown_count stations = number stations most_components

-- its inverse: the component whose number is i, the first of those from q on; 96 where there is none
unfoldable pub component_from : List Station → ℕ → ℕ → ℕ → ℕ
component_from stations i q zero = most_components
component_from stations i q (suc left) =
    cond (eqb (unknown stations q) 1 && eqb (number stations q) i) q (component_from stations i (suc q) left)

abbrev pub component_of : List Station → ℕ → ℕ
component_of stations i = component_from stations i 0 most_components

-- the number of component q, and 0 for a held one
unfoldable pub unknown_index : List Station → ℕ → ℕ
unknown_index stations q = unknown stations q * number stations q

-- the tables over the components: 1 at each unknown one and 0 at each held one; the number of each unknown, and 0 at a held one
abbrev pub unknown_table : List Station → List ℤ
unknown_table stations = tabulate most_components (λ q. pos (unknown stations q))

abbrev pub index_table : List Station → List ℕ
index_table stations = tabulate most_components (unknown_index stations)

-- ════ provisional coordinates
unfoldable pub coordinate_in : Station → ℕ → ℤ
coordinate_in s c = cond (eqb c 0) s.east (cond (eqb c 1) s.north s.up)

unfoldable pub coordinate : List Station → ℕ → ℤ
coordinate stations q = coordinate_in (station_at stations (q / 3)) (q % 3)

abbrev pub coordinates : List Station → List ℤ
coordinates stations = tabulate most_components (coordinate stations)

-- ════ a list of numbers, four a station: kind, E, N, U
-- kinds in numbers: 1 known, 2 free, 3 height
unfoldable pub kind_at : ℕ → Kind
kind_at zero = Known
kind_at (suc zero) = Free
kind_at (suc (suc zero)) = Height
kind_at (suc (suc (suc k))) = Known

abbrev pub kind_of : ℤ → Kind
kind_of v = kind_at (index_in v 3)

abbrev pub is_kind : ℤ → Bool
is_kind v = le_z (pos 1) v && le_z v (pos 3)

unfoldable pub station_in : List ℤ → ℕ → Station
station_in list s =
    record {
      kind = kind_of (get_or list (s * 4) (pos 0));
      east = get_or list (s * 4 + 1) (pos 0);
      north = get_or list (s * 4 + 2) (pos 0);
      up = get_or list (s * 4 + 3) (pos 0);
    }

-- the network that a list gives. What lies beyond its last number is read as 0, so the stations beyond its last are blank
unfoldable pub network_of : List ℤ → Network
network_of list = record { count = length list / 4; stations = tabulate most_stations (station_in list) }

-- ════ the rules
-- "A lent list of 1 to 32 stations"
abbrev pub count_fits : ℕ → Bool
count_fits n = leb 1 n && leb n most_stations

-- "Provisional coordinates lie within ±500,000,000", and the observed ones of a position "within the station limits" (document 02, request 5)
abbrev pub coordinate_fits : ℤ → Bool
coordinate_fits v = leb (nat_abs v) most_coordinate

unfoldable pub coordinates_fit : List Station → Bool
coordinates_fit stations = all_below most_components (λ q. coordinate_fits (coordinate stations q))

-- "Unknowns …: 1 to 48 of them"
unfoldable pub unknowns_fit : List Station → Bool
unknowns_fit stations = leb 1 (unknown_count stations) && leb (unknown_count stations) most_unknowns

-- a list has four numbers a station, and a right kind at each
unfoldable pub kinds_fit : List ℤ → Bool
kinds_fit list = all_below (length list / 4) (λ s. is_kind (get_or list (s * 4) (pos 0)))

unfoldable pub whole_stations : List ℤ → Bool
whole_stations list = eqb (length list % 4) 0

-- a list opens a book
unfoldable pub opens : List ℤ → Bool
opens list =
    whole_stations list && count_fits (length list / 4) && kinds_fit list && coordinates_fit (network_of list).stations && unknowns_fit (network_of list).stations

-- "1 | open | station count, kind, coordinate or number of unknowns outside the rules"; 0 where it is not refused
abbrev pub open_no : List ℤ → ℕ
open_no list = cond (opens list) 0 1

-- ════ a network by the rules, as a value: what 25 tests of a book's station list
unfoldable pub is_known : Kind → Bool
is_known Known = true
is_known Free = false
is_known Height = false

unfoldable pub is_blank : Station → Bool
is_blank s = is_known s.kind && eq_z s.east (pos 0) && eq_z s.north (pos 0) && eq_z s.up (pos 0)

unfoldable pub blank_beyond : Network → Bool
blank_beyond net = all_below most_stations (λ s. ltb s net.count || is_blank (station_at net.stations s))

unfoldable pub network_fits : Network → Bool
network_fits net = count_fits net.count && blank_beyond net && coordinates_fit net.stations && unknowns_fit net.stations
