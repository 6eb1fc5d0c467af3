-- The flat numbers of a list of stations, read back, are the list: an opened book holds the stations that were lent, in list order. Assumes nothing.
use Rattle.std.specs.Prelude.{ℕ, zero, suc, ◌+◌, ◌*◌, ◌<◌, ◌≡◌, refl, true, List, [], ◌∷◌, length, get_or, pos}
use Rattle.std.proofs.Common.{◌∙◌, arith, get_or-append-add}
use Rattle.integers.specs.Tables.{get_d_tabulate}
use Rattle.words.specs.Signed.{index_in}
use Rattle.network.specs.Units.{most_stations}
use Rattle.network.specs.Stations.{blank_station, station_at, kind_at, station_in, network_of, opens}
use Rattle.network.specs.declared.Station.{Station}
use Rattle.book.specs.Book.{opening}
use Rattle.network.specs.StationWords.{station_words, flat, kind_back, flat-length}

-- the numbers of the stations after the first
after : (x : Station) (xs : List Station) (i j : ℕ) → j ≡ 4 + i → get_or (flat (x ∷ xs)) j (pos 0) ≡ get_or (flat xs) i (pos 0)
unfolding flat station_words
after x xs i j e = rw e (get_or-append-add (station_words x) (flat xs) i (pos 0))

-- station s, counted from 0; blank beyond the last
pub flat_back : (ys : List Station) (s : ℕ) → station_in (flat ys) s ≡ get_or ys s blank_station
unfolding station_in flat station_words kind_at index_in
flat_back [] s = refl
flat_back (x ∷ xs) zero = rw (kind_back x.kind)
flat_back (x ∷ xs) (suc s) =
    rw (after x xs (s * 4) (suc s * 4) (omega arith), after x xs (s * 4 + 1) (suc s * 4 + 1) (omega arith), after x xs (s * 4 + 2) (suc s * 4 + 2) (omega arith), after x xs (s * 4 + 3) (suc s * 4 + 3) (omega arith))
    (flat_back xs s)

-- the book that a lent list opens: as many stations, and those of the list
pub record HoldsStations (ys : List Station) : Type 0 where
  pub count : (opening (flat ys)).book.network.count ≡ length ys
  pub stations : (s : ℕ) → s < most_stations → station_at (opening (flat ys)).book.network.stations s ≡ get_or ys s blank_station

pub holds-stations : (ys : List Station) → opens (flat ys) ≡ true → HoldsStations ys
unfolding network_of
holds-stations ys e =
    record {
      count = rw e (omega (arith, flat-length ys));
      stations = λ s h. rw e (get_d_tabulate most_stations (station_in (flat ys)) s blank_station h ∙ flat_back ys s);
    }
