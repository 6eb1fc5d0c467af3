-- N and u of the records: "With A the coefficients (−1 at from, +1 at to, only for unknowns), P the weights and l the misclosures:
-- N = AᵀPA, u = AᵀPl. All are whole numbers." (document 01, "Records"). Unknowns are numbered from 0 here. Assumes nothing.
use Rattle.std.specs.Prelude.{ℕ, ◌+◌, ◌*◌, ◌/◌, ◌%◌, ◌^◌, Bool, cond, ◌&&◌, List, leb, get_or, ℤ, pos, nat_abs, ◌-ℤ◌, ◌*ℤ◌}
use Rattle.integers.specs.Sums.{sum, δ}
use Rattle.integers.specs.Tables.{tabulate}
use Rattle.lists.specs.All.{all_below}
use Rattle.network.specs.Units.{most_unknowns, place_count}
use Rattle.network.specs.Stations.{unknown, number}
use Rattle.network.specs.Records.{acts, from_of, to_of, joins, weights, l, record_at}
use Rattle.network.specs.declared.Station.{Station}
use Rattle.network.specs.declared.Record.{Record}
use Rattle.network.specs.declared.Place.{Place}
use Rattle.normals.specs.declared.Normals.{Normals}

-- ════ A, P, l of one record; a and b are components: 0 E, 1 N, 2 U. l is network's
-- 1 where component q of the station list is the unknown i
unfoldable pub is_unknown : List Station → ℕ → ℕ → ℤ
is_unknown stations q i = pos (unknown stations q) *ℤ δ (number stations q) i

-- "A the coefficients (−1 at from, +1 at to, only for unknowns)": row a of record r, 0 in a component in which it does not act; joins is 1 where it has a from end
unfoldable pub A : List Station → Record → ℕ → ℕ → ℤ
A stations r a i = cond (acts a r) (is_unknown stations (to_of r * 3 + a) i -ℤ joins r *ℤ is_unknown stations (from_of r * 3 + a) i) (pos 0)

-- "P the weights"
abbrev pub P : Record → ℕ → ℕ → ℤ
P r a b = get_or (weights r) (a * 3 + b) (pos 0)

-- ════ AᵀPA and AᵀPl
-- one record's share
unfoldable pub share_n : List Station → Record → ℕ → ℕ → ℤ
share_n stations r i j = sum 3 (λ a. sum 3 (λ b. A stations r a i *ℤ P r a b *ℤ A stations r b j))

unfoldable pub share_u : List Station → Record → ℕ → ℤ
share_u stations r i = sum 3 (λ a. sum 3 (λ b. A stations r a i *ℤ P r a b *ℤ l stations r b))

-- the sum over the 256 places: the rows of A are those of all records, and P joins only rows of one record
unfoldable pub entry_n : List Station → List Place → ℕ → ℕ → ℤ
entry_n stations places i j = sum place_count (λ p. share_n stations (record_at places p) i j)

unfoldable pub entry_u : List Station → List Place → ℕ → ℤ
entry_u stations places i = sum place_count (λ p. share_u stations (record_at places p) i)

-- N is kept by rows of as many entries as there may be unknowns
abbrev pub matrix_length : ℕ
matrix_length = 2304

-- 9: "an entry of N or u, or T, beyond ±2^62": no entry of N or u is. There are at most 48 unknowns
unfoldable pub entries_fit : List Station → List Place → Bool
entries_fit stations places =
    all_below most_unknowns (λ i. all_below most_unknowns (λ j. leb (nat_abs (entry_n stations places i j)) (2 ^ 62)) && leb (nat_abs (entry_u stations places i)) (2 ^ 62))

-- ════ as they are kept: N by rows of 48
abbrev pub matrix_of : List Station → List Place → List ℤ
matrix_of stations places = tabulate matrix_length (λ k. entry_n stations places (k / most_unknowns) (k % most_unknowns))

abbrev pub right_of : List Station → List Place → List ℤ
right_of stations places = tabulate most_unknowns (entry_u stations places)

abbrev pub normals_of : List Station → List Place → Normals
normals_of stations places = record { matrix = matrix_of stations places; right = right_of stations places }
