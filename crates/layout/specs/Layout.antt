-- The layout of a book: where each part stands, its words in order, and the book that words give. docs/BOOK.md has each word's index and name. Assumes nothing.
use Rattle.std.specs.Prelude.{ℕ, ◌+◌, ◌*◌, ◌≡◌, refl, cond, List, [], ◌∷◌, ◌++◌, ltb, get_or, take, drop, ℤ, pos}
use Rattle.integers.specs.Tables.{tabulate}
use Rattle.words.specs.Signed.{signed, unsigned}
use Rattle.network.specs.Stations.{station_at, station_in}
use Rattle.network.specs.StationWords.{station_words}
use Rattle.network.specs.Records.{record_at}
use Rattle.network.specs.RecordWords.{record_length, record_words, record_in}
use Rattle.network.specs.Places.{places_length, places_in}
use Rattle.network.specs.declared.Network.{Network}
use Rattle.normals.specs.declared.Normals.{Normals}
use Rattle.book.specs.declared.Reversal.{Reversal}
use Rattle.book.specs.declared.Journal.{Journal}
use Rattle.book.specs.declared.Book.{Book}
use Rattle.book.specs.Journal.{journal_size, free}
use Rattle.words.specs.Concat.{concat_below}

-- ════ where each part begins, counted in words from 0, and the lengths
-- the words of a slot of the journal: the place, and the record to restore
abbrev pub reversal_length : ℕ
reversal_length = 1 + record_length

-- the station list follows the layout's number and the station count: 4 words a station
abbrev pub stations_start : ℕ
stations_start = 2

abbrev pub places_start : ℕ
places_start = stations_start + 32 * 4

-- the journal's counters: next, then count
abbrev pub counts_start : ℕ
counts_start = places_start + places_length

abbrev pub entries_start : ℕ
entries_start = counts_start + 2

-- N, then u
abbrev pub matrix_start : ℕ
matrix_start = entries_start + journal_size * reversal_length

abbrev pub right_start : ℕ
right_start = matrix_start + 48 * 48

-- a book, in words and in bytes
abbrev pub book_length : ℕ
book_length = right_start + 48

abbrev pub book_bytes : ℕ
book_bytes = 8 * book_length

-- the number that include/dombrelat.h gives a host
pub book_bytes_lem : book_bytes ≡ 56224
book_bytes_lem = refl

-- ════ words of the parts
-- four words a station, of the station s of the list, counted from 0; all 0 beyond the count
unfoldable pub station_part : Network → ℕ → List ℤ
station_part net s = cond (ltb s net.count) (station_words (station_at net.stations s)) (pos 0 ∷ pos 0 ∷ pos 0 ∷ pos 0 ∷ [])

-- the place counted from 0, and the record to restore
unfoldable pub reversal_words : Reversal → List ℤ
reversal_words u = signed u.place ∷ record_words u.prior

-- ════ a book's words. A count is kept as the word with its bits
-- the layout's number: 3 since a record may be a position, of kind 4 (document 02, request 5); 2 when words 12 and 13 of a record became antenna heights (request 4); in 1 they were 0
abbrev pub layout_number : ℤ
layout_number = pos 3

-- that number and the station count
abbrev pub head_words : Book → List ℤ
head_words b = layout_number ∷ signed b.network.count ∷ []

abbrev pub stations_part : Book → List ℤ
stations_part b = concat_below 32 (station_part b.network)

abbrev pub places_part : Book → List ℤ
places_part b = concat_below 256 (λ p. record_words (record_at b.places p))

abbrev pub counts_part : Book → List ℤ
counts_part b = signed b.journal.next ∷ signed b.journal.count ∷ []

abbrev pub entries_part : Book → List ℤ
entries_part b = concat_below journal_size (λ k. reversal_words (get_or b.journal.entries k free))

unfoldable pub book_words : Book → List ℤ
book_words b = head_words b ++ (stations_part b ++ (places_part b ++ (counts_part b ++ (entries_part b ++ (b.normals.matrix ++ b.normals.right)))))

-- ════ the book that words give, for any words. Those of a kind that is none are read as an empty record or a known station, and the words that a
-- record does not use are not looked at: words that are not a book's are told by writing what was read, in Bytes.antt
abbrev pub count_in : List ℤ → ℕ → ℕ
count_in w at = unsigned (get_or w at (pos 0))

abbrev pub reversal_in : List ℤ → ℕ → Reversal
reversal_in w at = record { place = count_in w at; prior = record_in w (at + 1) }

abbrev pub network_in : List ℤ → Network
network_in w = record { count = count_in w 1; stations = tabulate 32 (station_in (take 128 (drop stations_start w))) }

-- the words of the places
abbrev pub places_at : List ℤ → List ℤ
places_at w = take places_length (drop places_start w)

abbrev pub entries_in : List ℤ → List Reversal
entries_in w = tabulate journal_size (λ k. reversal_in w (entries_start + k * reversal_length))

abbrev pub journal_in : List ℤ → Journal
journal_in w = record { entries = entries_in w; next = count_in w counts_start; count = count_in w (counts_start + 1) }

abbrev pub normals_in : List ℤ → Normals
normals_in w = record { matrix = take 2304 (drop matrix_start w); right = take 48 (drop right_start w) }

unfoldable pub book_in : List ℤ → Book
book_in w = record { network = network_in w; places = places_in (places_at w); journal = journal_in w; normals = normals_in w }
