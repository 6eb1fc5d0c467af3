-- Records: what a place holds, with its shape, ends, weights, reduced values and misclosures. Assumes nothing.
use Rattle.std.specs.Prelude.{ℕ, zero, suc, ◌+◌, ◌*◌, ◌≤◌, Bool, true, false, cond, List, [], ◌∷◌, eqb, get_or, ℤ, pos, nat_abs, ◌+ℤ◌, ◌-ℤ◌, ◌*ℤ◌}
use Rattle.std.proofs.Common.{arith}
use Rattle.words.specs.Signed.{index_in}
use Rattle.weights.specs.Rules.{matrix_rows}
use Rattle.weights.specs.declared.WeightMatrix.{WeightMatrix}
use Rattle.network.specs.Units.{most_stations}
use Rattle.network.specs.Stations.{coordinates}
use Rattle.network.specs.declared.Station.{Station}
use Rattle.network.specs.declared.Baseline.{Baseline}
use Rattle.network.specs.declared.Record.{Record}
use Rattle.network.specs.declared.Record.TheVariants.{Empty, Baseline as baseline, Height as height, Position as position}
use Rattle.network.specs.declared.Place.{Place}

-- ════ places: document 01's word for where a record stands; 256 of them
abbrev pub vacant : Place
vacant = record { entry = Empty }

abbrev pub record_at : List Place → ℕ → Record
record_at places p = (get_or places p vacant).entry

-- ════ a record by its numbers
-- a baseline: from, to, the observed differences E, N, U, the weights EE, EN, EU, NN, NU, UU, the antenna heights, from first
abbrev pub baseline_of : ℤ → ℤ → List ℤ → List ℤ → List ℤ → Record
baseline_of from to o w h =
    baseline
    (record {
      from = from;
      to = to;
      east = get_or o 0 (pos 0);
      north = get_or o 1 (pos 0);
      up = get_or o 2 (pos 0);
      ee = get_or w 0 (pos 0);
      en = get_or w 1 (pos 0);
      eu = get_or w 2 (pos 0);
      nn = get_or w 3 (pos 0);
      nu = get_or w 4 (pos 0);
      uu = get_or w 5 (pos 0);
      hf = get_or h 0 (pos 0);
      ht = get_or h 1 (pos 0);
    })

-- a height difference: from, to, the observed difference, the weight
abbrev pub height_of : ℤ → ℤ → ℤ → ℤ → Record
height_of from to up weight = height (record { from = from; to = to; up = up; weight = weight })

-- a position: the station, the observed coordinates E, N, U, the weights EE, EN, EU, NN, NU, UU
abbrev pub position_of : ℤ → List ℤ → List ℤ → Record
position_of station o w =
    position
    (record {
      station = station;
      east = get_or o 0 (pos 0);
      north = get_or o 1 (pos 0);
      up = get_or o 2 (pos 0);
      ee = get_or w 0 (pos 0);
      en = get_or w 1 (pos 0);
      eu = get_or w 2 (pos 0);
      nn = get_or w 3 (pos 0);
      nu = get_or w 4 (pos 0);
      uu = get_or w 5 (pos 0);
    })

-- ════ the shape of a record: how many components it observes, and in which it acts. What counts records, or takes or prints a line of one, follows from it
-- "3 per baseline + 1 per height difference"; a position "adds 3 to D" (document 02, request 5); an empty place observes nothing
unfoldable pub observations : Record → ℕ
observations Empty = 0
observations (baseline b) = 3
observations (height h) = 1
observations (position p) = 3

-- one that observes so many acts in none, in U alone, or in all three. Components are 0 E, 1 N, 2 U
unfoldable pub acts_of : ℕ → ℕ → Bool
acts_of zero c = false
acts_of (suc zero) c = eqb c 2
acts_of (suc (suc n)) c = true

-- "baselines act in E, N, U; height differences in U only"; a position has three observed coordinates
unfoldable pub acts : ℕ → Record → Bool
acts c r = acts_of (observations r) c

unfoldable pub is_empty : Record → Bool
is_empty r = eqb (observations r) 0

-- ════ the stations a record joins, counted from 0; 32 where the number is none of 1 to 32. A position "has one station", which stands for both
unfoldable pub from_of : Record → ℕ
from_of Empty = 0
from_of (baseline b) = index_in b.from most_stations
from_of (height h) = index_in h.from most_stations
from_of (position p) = index_in p.station most_stations

unfoldable pub to_of : Record → ℕ
to_of Empty = 0
to_of (baseline b) = index_in b.to most_stations
to_of (height h) = index_in h.to most_stations
to_of (position p) = index_in p.station most_stations

-- 1 where the record has a from end, so that A has −1 there: a baseline and a height difference have one; an empty place has none, and a position has none: "its coefficient in A is +1"
unfoldable pub joins : Record → ℤ
joins Empty = pos 0
joins (baseline b) = pos 1
joins (height h) = pos 1
joins (position p) = pos 0

pub joins-one : (r : Record) → nat_abs (joins r) ≤ 1
unfolding joins
joins-one Empty = let h : 0 ≤ 1 = omega arith in h
joins-one (baseline b) = let h : 1 ≤ 1 = omega arith in h
joins-one (height h) = let h : 1 ≤ 1 = omega arith in h
joins-one (position p) = let h : 0 ≤ 1 = omega arith in h

-- whether it is a position, at which a chain of test 2 may end
unfoldable pub is_position : Record → Bool
is_position Empty = false
is_position (baseline b) = false
is_position (height h) = false
is_position (position p) = true

-- ════ its weights: a symmetric 3×3 matrix; of a height difference the one weight at U; an empty place has the weights 0
abbrev pub weight_matrix_of : Record → WeightMatrix
weight_matrix_of Empty = record { ee = pos 0; en = pos 0; eu = pos 0; nn = pos 0; nu = pos 0; uu = pos 0 }
weight_matrix_of (baseline b) = record { ee = b.ee; en = b.en; eu = b.eu; nn = b.nn; nu = b.nu; uu = b.uu }
weight_matrix_of (height h) = record { ee = pos 0; en = pos 0; eu = pos 0; nn = pos 0; nu = pos 0; uu = h.weight }
weight_matrix_of (position p) = record { ee = p.ee; en = p.en; eu = p.eu; nn = p.nn; nu = p.nu; uu = p.uu }

-- by rows
unfoldable pub weights : Record → List ℤ
weights r = matrix_rows (weight_matrix_of r)

-- ════ its reduced differences, to minus from, in E, N, U: those between the marks, as observed but for the U of a baseline, which comes antenna to antenna. Of a position its coordinates
-- document 02, request 4: "the reduced U difference is the observed one plus the from-height minus the to-height"
unfoldable pub reduced_up : Baseline → ℤ
reduced_up b = b.up +ℤ b.hf -ℤ b.ht

unfoldable pub reduced : Record → List ℤ
reduced Empty = pos 0 ∷ pos 0 ∷ pos 0 ∷ []
reduced (baseline b) = b.east ∷ b.north ∷ reduced_up b ∷ []
reduced (height h) = pos 0 ∷ pos 0 ∷ h.up ∷ []
reduced (position p) = p.east ∷ p.north ∷ p.up ∷ []

-- "Misclosure = observed minus the provisional difference", "taken from the reduced value": c holds the provisional coordinates, a is the component, f and t are the stations at the ends; j is 0
-- where there is no from end: of a position "its misclosure is observed minus provisional"
unfoldable pub misclosure_at : List ℤ → ℕ → ℕ → ℤ → ℕ → ℤ → ℤ
misclosure_at c f t j a o = o -ℤ (get_or c (t * 3 + a) (pos 0) -ℤ j *ℤ get_or c (f * 3 + a) (pos 0))

-- the misclosure of a record in component a, 0 in one that it does not observe
unfoldable pub misclosure_in : List ℤ → Record → ℕ → ℤ
misclosure_in c r a = cond (acts a r) (misclosure_at c (from_of r) (to_of r) (joins r) a (get_or (reduced r) a (pos 0))) (pos 0)

-- in E, N, U
unfoldable pub misclosures : List ℤ → Record → List ℤ
misclosures c r = misclosure_in c r 0 ∷ misclosure_in c r 1 ∷ misclosure_in c r 2 ∷ []

-- l of a record
abbrev pub l : List Station → Record → ℕ → ℤ
l stations r a = get_or (misclosures (coordinates stations) r) a (pos 0)
