-- A list that opens gives a network by the rules. Assumes nothing.
use Rattle.std.specs.Prelude.{ℕ, ◌+◌, ◌*◌, ◌/◌, ◌%◌, ◌<◌, ◌≤◌, ◌≡◌, ◌||◌, List, [], ◌∷◌, ltb, get_or, ℤ, pos}
use Rattle.std.proofs.Math.Bool.{true}
use native.Mathlib.Omega.{arith}
use Rattle.std.proofs.Math.Decide.{dec_lt}
use borrow.Author.Tests.{eqb-true, lt-ltb, le-ltb}
use Rattle.std.proofs.Math.ListN.{length, get_or-eq_default}
use Rattle.integers.specs.Tables.{tabulate, get_d_tabulate}
use Rattle.words.specs.Signed.{index_in}
use Rattle.lists.specs.All.{Each, each, each_by, all_by}
use Rattle.network.specs.Stations.{station_at, blank_station, kind_at, station_in, network_of, count_fits, coordinates_fit, unknowns_fit, kinds_fit, whole_stations, opens, is_known, is_blank, blank_beyond, network_fits}

module _ (list : List ℤ) (e : opens list ≡ true) where
  tests : Each (whole_stations list ∷ count_fits (length list / 4) ∷ kinds_fit list ∷ coordinates_fit (network_of list).stations ∷ unknowns_fit (network_of list).stations ∷ [])
  unfolding opens
  tests = each (whole_stations list ∷ count_fits (length list / 4) ∷ kinds_fit list ∷ coordinates_fit (network_of list).stations ∷ unknowns_fit (network_of list).stations ∷ []) e

  -- beyond the list's last station
  beyond : (s i : ℕ) → length list / 4 ≤ s → s * 4 ≤ i → get_or list i (pos 0) ≡ pos 0
  unfolding whole_stations
  beyond s i h k =
      let w : length list % 4 ≡ 0 = eqb-true (length list % 4) 0 tests.0 in
      let g : length list ≤ i = omega arith in
      get_or-eq_default list (pos 0) {n = i} g

  blank_station_lem : (s : ℕ) → length list / 4 ≤ s → station_in list s ≡ blank_station
  unfolding station_in kind_at index_in
  blank_station_lem s h =
      rw (beyond s (s * 4) h (omega arith), beyond s (s * 4 + 1) h (omega arith), beyond s (s * 4 + 2) h (omega arith), beyond s (s * 4 + 3) h (omega arith))

  blank_beyond_lem : blank_beyond (network_of list) ≡ true
  unfolding blank_beyond network_of is_blank is_known
  blank_beyond_lem = all_by 32 _ (λ s h. one s h (dec_lt s (length list / 4)))
    where
      one : (s : ℕ) → s < 32 → Dec (s < length list / 4) → (ltb s (length list / 4) || is_blank (station_at (tabulate 32 (station_in list)) s)) ≡ true
      one s h (yes p) = rw (lt-ltb s (length list / 4) p)
      one s h (no p) =
          let q : length list / 4 ≤ s = omega arith in
          rw (le-ltb s (length list / 4) q, get_d_tabulate 32 (station_in list) s blank_station h, blank_station_lem s q)

  pub opened-fits : network_fits (network_of list) ≡ true
  unfolding network_fits network_of
  opened-fits =
      each_by (count_fits (length list / 4) ∷ blank_beyond (network_of list) ∷ coordinates_fit (network_of list).stations ∷ unknowns_fit (network_of list).stations ∷ [])
      (tests.1.0, (blank_beyond_lem, (tests.1.1.1.0, (tests.1.1.1.1.0, tt))))
