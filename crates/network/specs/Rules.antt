-- What a record is refused for: 3, 4, 5, 6 of document 01's table, in their order; 0 for none. Assumes nothing.
use Rattle.std.specs.Prelude.{ℕ, Bool, true, false, cond, not, ◌&&◌, List, eqb, leb, get_or, ℤ, pos, nat_abs}
use Rattle.std.specs.Int.Signed.{le_z}
use Rattle.words.specs.Signed.{eq_z}
use Rattle.lists.specs.All.{all_below}
use Rattle.weights.specs.Rules.{weight_fits, weights_in_range, matrix_fits}
use Rattle.network.specs.Units.{most_observed, most_misclosure, most_height_above_mark}
use Rattle.network.specs.Stations.{coordinate_fits, coordinates}
use Rattle.network.specs.Records.{weight_matrix_of, observations, reduced_up, misclosures, is_empty}
use Rattle.network.specs.declared.Network.{Network}
use Rattle.network.specs.declared.Baseline.{Baseline}
use Rattle.network.specs.declared.Level.{Level}
use Rattle.network.specs.declared.Position.{Position}
use Rattle.network.specs.declared.Record.{Record}
use Rattle.network.specs.declared.Record.TheVariants.{Empty, Baseline as baseline, Height as height, Position as position}

-- ════ 3: "from or to not in the list, or equal"
abbrev pub in_list : ℕ → ℤ → Bool
in_list count v = le_z (pos 1) v && le_z v (pos count)

unfoldable pub ends_fit : ℕ → ℤ → ℤ → Bool
ends_fit count from to = in_list count from && in_list count to && not (eq_z from to)

-- of what a place holds; nothing has no ends in the list. Of a position "3 where the station isn't in the list" (document 02, request 5)
unfoldable pub record_ends_fit : ℕ → Record → Bool
record_ends_fit count Empty = false
record_ends_fit count (baseline b) = ends_fit count b.from b.to
record_ends_fit count (height h) = ends_fit count h.from h.to
record_ends_fit count (position p) = in_list count p.station

-- ════ 4: "observed component or a weight out of range"
-- "Each observed component lies within ±1,000,000,000"
abbrev pub observed_fits : ℤ → Bool
observed_fits v = leb (nat_abs v) most_observed

-- the height of an instrument, a target or an antenna above its mark
abbrev pub height_above_mark_fits : ℤ → Bool
height_above_mark_fits h = le_z (pos 0) h && le_z h (pos most_height_above_mark)

-- document 02, request 4: "The observed U difference and the reduced one must each lie within ±1,000,000,000"; "4 covers the heights and the reduced value"
unfoldable pub up_in_range : Baseline → Bool
up_in_range b = observed_fits b.up && height_above_mark_fits b.hf && height_above_mark_fits b.ht && observed_fits (reduced_up b)

-- "Diagonal and single weights 1 to 10,000; off-diagonals within ±10,000": `weight_fits` and `weights_in_range`, in crate weights
unfoldable pub baseline_in_range : Baseline → Bool
baseline_in_range b = observed_fits b.east && observed_fits b.north && up_in_range b && weights_in_range (weight_matrix_of (baseline b))

unfoldable pub height_in_range : Level → Bool
height_in_range h = observed_fits h.up && weight_fits h.weight

-- document 02, request 5: "three observed coordinates within the station limits and a 3×3 weight matrix under the same rules"
unfoldable pub position_in_range : Position → Bool
position_in_range p = coordinate_fits p.east && coordinate_fits p.north && coordinate_fits p.up && weights_in_range (weight_matrix_of (position p))

-- the range test of what a place holds
unfoldable pub in_range : Record → Bool
in_range Empty = true
in_range (baseline b) = baseline_in_range b
in_range (height h) = height_in_range h
in_range (position p) = position_in_range p

-- ════ 5: "A matrix needs all three leading minors positive, and each diagonal entry of its adjugate at most 16 times its determinant":
-- `matrix_fits`, in crate weights; of a record that has a matrix, which observes three components
unfoldable pub record_matrix_fits : Record → Bool
record_matrix_fits r = cond (eqb (observations r) 3) (matrix_fits (weight_matrix_of r)) true

-- ════ 6: "misclosure too large": "each component within ±100,000". A component that is not observed has the misclosure 0. c holds the provisional coordinates
unfoldable pub misclosure_fits : List ℤ → Record → Bool
misclosure_fits c r = all_below 3 (λ a. leb (nat_abs (get_or (misclosures c r) a (pos 0))) most_misclosure)

-- ════ the number, by the count of stations and their provisional coordinates
unfoldable pub record_no_over : ℕ → List ℤ → Record → ℕ
record_no_over count c r = cond (record_ends_fit count r) (cond (in_range r) (cond (record_matrix_fits r) (cond (misclosure_fits c r) 0 6) 5) 4) 3

unfoldable pub record_no : Network → Record → ℕ
record_no net r = record_no_over net.count (coordinates net.stations) r

-- what a place may hold: nothing, or a record that is not refused
unfoldable pub record_fits_over : ℕ → List ℤ → Record → Bool
record_fits_over count c r = cond (is_empty r) true (eqb (record_no_over count c r) 0)

unfoldable pub record_fits : Network → Record → Bool
record_fits net r = record_fits_over net.count (coordinates net.stations) r
