-- That the words of 33 stations are kept, and no more, changes no opening: more than 32 are refused, whatever they are. Assumes nothing.
use Rattle.std.specs.Prelude.{ℕ, ◌+◌, ◌*◌, ◌/◌, ◌≤◌, ◌≡◌, refl, false, cond, List, ◌++◌, leb, length, take, ℤ}
use Rattle.std.proofs.Common.{sym, arith, le-leb, length-append, take_all, length-take-le}
use Rattle.std.proofs.Math.Bool.{and-false}
use Rattle.std.proofs.Math.Decide.{dec_le}
use Rattle.std.proofs.lemmas.Bool.{lt-leb}
use Rattle.std.proofs.lemmas.List.{take-append-le}
use Rattle.network.specs.declared.Station.{Station}
use Rattle.network.specs.Stations.{opens}
use Rattle.book.specs.Book.{opening}
use Rattle.network.specs.StationWords.{station_words}
use Rattle.input_lines.specs.Runs.{list_room, noted}
use Rattle.input_lines.specs.StateLaws.{four}

-- a station noted, of the words l of all the stations before it: the words of 33 stations are kept
pub noted_one : (l : List ℤ) (n : ℕ) (s : Station) → length l ≡ n * 4 → noted (take list_room l) s ≡ take list_room (l ++ station_words s)
unfolding noted
noted_one l n s e = by (dec_le n 32)
  where
    by : Dec (n ≤ 32) → cond (leb (length (take list_room l) + 4) list_room) (take list_room l ++ station_words s) (take list_room l) ≡ take list_room (l ++ station_words s)
    by (yes h) =
        let f = four s in
        rw (take_all list_room l (omega arith), le-leb (length l + 4) list_room (omega arith)) (sym (take_all list_room (l ++ station_words s) (rw length-append (omega arith))))
    by (no h) =
        rw (length-take-le list_room l (omega arith)) (sym (take-append-le list_room l (station_words s) (omega arith)))

-- more than 32 stations do not open
too_many : (l : List ℤ) → list_room ≤ length l → opens l ≡ false
unfolding opens
too_many l h =
    let k : leb (length l / 4) 32 ≡ false = lt-leb (length l / 4) 32 (omega arith) in
    rw (k, and-false, and-false) refl

pub opening-cut : (l : List ℤ) → opening (take list_room l) ≡ opening l
opening-cut l = by (dec_le (length l) list_room)
  where
    by : Dec (length l ≤ list_room) → opening (take list_room l) ≡ opening l
    by (yes h) = rw (take_all list_room l h)
    by (no h) = rw (too_many l (omega arith), too_many (take list_room l) (rw (length-take-le list_room l (omega arith)) (omega arith)))
