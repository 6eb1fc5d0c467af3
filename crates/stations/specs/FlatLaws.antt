-- The flat numbers of a list of stations: one station more, and why none of a list that is too long need be read. Assumes nothing.
use Rattle.std.specs.Prelude.{ℕ, ◌+◌, ◌*◌, ◌/◌, ◌%◌, ◌<◌, ◌≤◌, ◌≡◌, refl, true, false, List, [], ◌++◌, length, take, get_or, ℤ}
use Rattle.std.proofs.Common.{◌∙◌, add-one, arith, le-leb, eq-eqb, take-suc}
use Rattle.std.proofs.Math.Decide.{dec_le}
use Rattle.std.proofs.lemmas.Bool.{lt-leb}
use Rattle.std.proofs.Math.Seq.{take-length}
use Rattle.network.specs.Units.{most_stations}
use Rattle.network.specs.Stations.{blank_station, whole_stations, count_fits, opens}
use Rattle.network.specs.declared.Station.{Station}
use Rattle.book.specs.Book.{opening, sound}
use Rattle.book.specs.Outcome.{Outcome}
use Rattle.network.specs.StationWords.{station_words, flat, flat-length, flat-one}
use Rattle.stations.specs.Flat.{read_count}

-- one station more
pub flat-more : (ys : List Station) (i : ℕ) → i < length ys → flat (take (i + 1) ys) ≡ flat (take i ys) ++ station_words (get_or ys i blank_station)
flat-more ys i h = rw (add-one, take-suc ys i blank_station, flat-one)

-- the same as the reader's loop has it: w holds the first i stations, and the next one's numbers are put after them
pub flat_step : (ys : List Station) (i : ℕ) (w next : List ℤ) (s : Station) → i < length ys → s ≡ get_or ys i blank_station → take (i * 4) w ≡ flat (take i ys)
    → take ((i + 1) * 4) next ≡ take (i * 4) w ++ station_words s → take ((i + 1) * 4) next ≡ flat (take (i + 1) ys)
flat_step ys i w next s h e held put = put ∙ rw (held, e, flat-more ys i h)

-- ════ how many are read
pub read_fits : (n : ℕ) → n ≤ most_stations → read_count n ≡ n
unfolding read_count
read_fits n h = rw (le-leb n most_stations h)

pub read_over : (n : ℕ) → most_stations < n → read_count n ≡ 0
unfolding read_count
read_over n h = rw (lt-leb n most_stations h)

pub read_most : (n : ℕ) → read_count n ≤ most_stations
read_most n = by_test (dec_le n most_stations)
  where
    by_test : Dec (n ≤ most_stations) → read_count n ≤ most_stations
    by_test (yes p) = omega (arith, read_fits n p)
    by_test (no p) = omega (arith, read_over n (omega arith))

pub read_within : (n : ℕ) → read_count n ≤ n
read_within n = by_test (dec_le n most_stations)
  where
    by_test : Dec (n ≤ most_stations) → read_count n ≤ n
    by_test (yes p) = omega (arith, read_fits n p)
    by_test (no p) = omega (arith, read_over n (omega arith))

read_all : (ys : List Station) → length ys ≤ most_stations → take (read_count (length ys)) ys ≡ ys
read_all ys h = rw (read_fits (length ys) h) (take-length ys)

read_none : (ys : List Station) → most_stations < length ys → flat (take (read_count (length ys)) ys) ≡ []
unfolding flat
read_none ys h = rw (read_over (length ys) h)

-- ════ the opening on what is read is the opening on all
whole : (ys : List Station) → whole_stations (flat ys) ≡ true
unfolding whole_stations
whole ys = eq-eqb (length (flat ys) % 4) 0 (omega (arith, flat-length ys))

too_many : (ys : List Station) → most_stations < length ys → count_fits (length (flat ys) / 4) ≡ false
too_many ys h = let g : most_stations < length (flat ys) / 4 = omega (arith, flat-length ys) in rw (lt-leb (length (flat ys) / 4) most_stations g, le-leb 1 (length (flat ys) / 4) (omega arith))

-- "1 | open | station count … outside the rules"
pub too_long : (ys : List Station) → most_stations < length ys → opens (flat ys) ≡ false
unfolding opens
too_long ys h = rw (whole ys, too_many ys h)

no_stations : opens [] ≡ false
unfolding opens whole_stations
no_stations = refl

pub read_alike : (ys : List Station) → (opening (flat (take (read_count (length ys)) ys)) ≡ opening (flat ys)) × (opens (flat (take (read_count (length ys)) ys)) ≡ opens (flat ys))
read_alike ys = by_test (dec_le (length ys) most_stations)
  where
    by_test : Dec (length ys ≤ most_stations) → (opening (flat (take (read_count (length ys)) ys)) ≡ opening (flat ys)) × (opens (flat (take (read_count (length ys)) ys)) ≡ opens (flat ys))
    by_test (yes p) = (rw (read_all ys p), rw (read_all ys p))
    by_test (no p) = let h : most_stations < length ys = omega arith in (rw (read_none ys h, no_stations, too_long ys h), rw (read_none ys h, no_stations, too_long ys h))

-- what an opening's outcome says
abbrev pub Opened : List ℤ → Outcome → Type 0
Opened list e = (e ≡ opening list) × (opens list ≡ true → sound e.book ≡ true)

pub read_opened : (ys : List Station) (e : Outcome) → Opened (flat (take (read_count (length ys)) ys)) e → Opened (flat ys) e
read_opened ys e o = (o.0 ∙ (read_alike ys).0, λ t. o.1 ((read_alike ys).1 ∙ t))
