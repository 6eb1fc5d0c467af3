-- What the C calls that read a book answer, and the lent slice afterwards. They change no book. Assumes nothing.
use Rattle.std.specs.Prelude.{ℕ, ◌*◌, cond, List, leb, length, ℤ, pos}
use Rattle.words.specs.Runs.{put_words}
use Rattle.network.specs.Stations.{station_at, unknown_count}
use Rattle.network.specs.StationWords.{station_words}
use Rattle.network.specs.Records.{record_at}
use Rattle.network.specs.Rules.{in_list}
use Rattle.network.specs.declared.Network.{Network}
use Rattle.book.specs.Calls.{place_of}
use Rattle.sheet.specs.Sheet.{room}
use Rattle.words.specs.Concat.{concat_below}
use Rattle.network.specs.RecordWords.{record_words}
use Rattle.layout.specs.Bytes.{book_of, bytes_fit}
use Rattle.dombrelat.specs.Calls.{Returned, refused_with}

-- a result is refusal + 256 · number: that of a call which is not refused, and gives a number
abbrev pub numbered : ℕ → ℤ
numbered number = pos (256 * number)

-- the largest number that is given: the bytes of the longest sheet, 8 · 2,021
abbrev pub number_most : ℕ
number_most = 16168

-- the number of unknowns
unfoldable pub unknowns_call : List ℕ → ℤ
unknowns_call s = cond (bytes_fit s) (numbered (unknown_count (book_of s).network.stations)) (pos 25)

-- the bytes that the sheet of an accepted pair takes, of the records as they are now
unfoldable pub sheet_bytes_call : List ℕ → ℤ
sheet_bytes_call s = cond (bytes_fit s) (numbered (8 * room (book_of s).network (book_of s).places)) (pos 25)

-- ════ words at the front of a lent slice: bytes beyond stay. 10 where it has no room for them
unfoldable pub gives : ℕ → List ℤ → List ℕ → Returned
gives number words out = cond (leb (8 * length words) (length out)) (record { answer = numbered number; bytes = put_words out 0 words }) (refused_with 10 out)

-- the station list, four words a station, as an opening takes it
unfoldable pub list_words : Network → List ℤ
list_words net = concat_below net.count (λ k. station_words (station_at net.stations k))

-- the station list, and the number of stations
unfoldable pub stations_call : List ℕ → List ℕ → Returned
stations_call s list = cond (bytes_fit s) (gives (book_of s).network.count (list_words (book_of s).network) list) (refused_with 25 list)

-- the 14 words of what a place holds, all 0 where it is empty. "2 | … | place not 1 to 256"
unfoldable pub record_call : List ℕ → ℤ → List ℕ → Returned
record_call s place out =
    cond (bytes_fit s) (cond (in_list 256 place) (gives 0 (record_words (record_at (book_of s).places (place_of place))) out) (refused_with 2 out)) (refused_with 25 out)
