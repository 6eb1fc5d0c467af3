-- Document 01, "Accepting a solution", test 2: "for every component, each station unknown in it is joined, by a chain of records acting in it, to a station held
-- in it (baselines act in E, N, U; height differences in U only)". Document 02, request 5: "A chain in test 2 may now also end at a station with a position record." Components are 0 E, 1 N, 2 U, stations and places count from 0, and component q of the
-- station list is component q % 3 of station q / 3. Assumes nothing.
use Rattle.std.specs.Prelude.{ℕ, ◌+◌, ◌*◌, ◌/◌, ◌%◌, ◌<◌, ◌^◌, ◌≡◌, Bool, true, cond, List, eqb, get_or}
use Rattle.integers.specs.Tables.{tabulate}
use Rattle.lists.specs.All.{all_below}
use Rattle.network.specs.Units.{most_stations, most_components, place_count}
use Rattle.network.specs.Stations.{unknown, number}
use Rattle.network.specs.Records.{record_at, acts, is_position, from_of, to_of}
use Rattle.network.specs.declared.Station.{Station}
use Rattle.network.specs.declared.Network.{Network}
use Rattle.network.specs.declared.Record.{Record}
use Rattle.network.specs.declared.Place.{Place}
use Rattle.chains.specs.Bits.{bit, put_in}
use Rattle.chains.specs.Scans.{first_failing}
use Rattle.chains.specs.Search.{search}

-- "joined, by a chain of records acting in it, to a station held in it", or to one with a position record: station s, in component c
pub data Tied (net : Network) (places : List Place) (c : ℕ) : ℕ → Type 0 where
  held : {s : ℕ} → s < net.count → unknown net.stations (s * 3 + c) ≡ 0 → Tied net places c s
  positioned : {s p : ℕ} → p < place_count → is_position (record_at places p) ≡ true → to_of (record_at places p) ≡ s → Tied net places c s
  along : {s t p : ℕ} → p < place_count → acts c (record_at places p) ≡ true → from_of (record_at places p) ≡ s → to_of (record_at places p) ≡ t
      → Tied net places c s → Tied net places c t
  back : {s t p : ℕ} → p < place_count → acts c (record_at places p) ≡ true → from_of (record_at places p) ≡ s → to_of (record_at places p) ≡ t
      → Tied net places c t → Tied net places c s

-- test 2: "for every component, each station unknown in it is joined …"; stations beyond the list are held
abbrev pub EachTied : Network → List Place → Type 0
EachTied net places = (c s : ℕ) → c < 3 → s < most_stations → unknown net.stations (s * 3 + c) ≡ 1 → Tied net places c s

-- "the first unknown without a chain", by its number from 1: every unknown of a lower number has one
pub record FirstWithoutChain (net : Network) (places : List Place) (first : ℕ) : Type 0 where
  pub component : ℕ
  pub station : ℕ
  pub inside : (component < 3) × (station < most_stations)
  pub is_unknown : unknown net.stations (station * 3 + component) ≡ 1
  pub numbered : first ≡ number net.stations (station * 3 + component) + 1
  pub untied : Tied net places component station → ⊥
  pub lower : (c s : ℕ) → c < 3 → s < most_stations → unknown net.stations (s * 3 + c) ≡ 1 → number net.stations (s * 3 + c) + 1 < first → Tied net places c s

-- ════ the same by a search, which ChainLaws shows to be exact: `bit (tied_set net places c) s ≡ true` where there is a `Tied net places c s`, and only there
-- a record's ends in one number; one that does not act in c joins station 0 to itself
unfoldable pub edge : ℕ → Record → ℕ
edge c r = cond (acts c r) (from_of r * most_stations + to_of r) 0

abbrev pub edges : List Place → ℕ → List ℕ
edges places c = tabulate place_count (λ p. edge c (record_at places p))

abbrev pub from_end : List ℕ → ℕ → ℕ
from_end e p = get_or e p 0 / most_stations

abbrev pub to_end : List ℕ → ℕ → ℕ
to_end e p = get_or e p 0 % most_stations

-- the stations with a position record, as the bits of a word
abbrev pub position_set : List Place → ℕ
position_set places = put_in place_count (λ p. is_position (record_at places p)) (λ p. to_of (record_at places p)) 0

-- where chains may end: these, and the stations held in c
abbrev pub is_held : List Station → ℕ → ℕ → Bool
is_held stations c s = eqb (unknown stations (s * 3 + c)) 0

abbrev pub start_set : Network → List Place → ℕ → ℕ
start_set net places c = put_in net.count (is_held net.stations c) (λ s. s) (position_set places)

-- from there those that passes over the records reach; no word below 2^32 grows more than 2^32 times
unfoldable pub tied_set : Network → List Place → ℕ → ℕ
tied_set net places c = search (from_end (edges places c)) (to_end (edges places c)) place_count (2 ^ 32) (start_set net places c)

-- component q is held or tied
unfoldable pub is_tied : Network → List Place → ℕ → Bool
is_tied net places q = cond (eqb (unknown net.stations q) 0) true (bit (tied_set net places (q % 3)) (q / 3))

-- ════ test 2
unfoldable pub all_tied : Network → List Place → Bool
all_tied net places = all_below most_components (is_tied net places)

-- "the first unknown without a chain", by its number from 1
unfoldable pub first_untied : Network → List Place → ℕ
first_untied net places = number net.stations (first_failing most_components (is_tied net places)) + 1
