-- The words of a book of any value: where each part stands among them, and what is read there. Assumes nothing.
use Rattle.std.specs.Prelude.{ℕ, suc, ◌+◌, ◌*◌, ◌<◌, ◌≡◌, Bool, true, false, cond, List, [], ◌∷◌, ◌++◌, ltb, length, get_or, take, drop, ℤ, pos}
use Rattle.std.proofs.Math.Path.{refl, sym}
use Rattle.std.proofs.Common.{ap, ◌∙◌, append_assoc, arith, length-append, get_or-append-add, get_or-take, get_or-drop}
use Rattle.std.proofs.Math.ListN.{get_or-append}
use Rattle.std.proofs.Math.Seq.{take_at}
use Rattle.words.specs.Signed.{signed}
use Rattle.network.specs.Stations.{station_at}
use Rattle.network.specs.Records.{record_at}
use Rattle.network.specs.declared.Network.{Network}
use Rattle.book.specs.declared.Reversal.{Reversal}
use Rattle.book.specs.declared.Book.{Book}
use Rattle.book.specs.Journal.{journal_size, free}
use Rattle.book.specs.Sound.{Sized}
use Rattle.words.specs.Concat.{length-concat_below, concat_below-between}
use Rattle.network.specs.StationWords.{station_words}
use Rattle.network.specs.RecordWords.{record_words, record_in, record_length}
use Rattle.network.specs.RecordWordLaws.{length_record, record_moved}
use Rattle.network.specs.Places.{places_length, record_in_place}
use Rattle.layout.specs.Layout.{station_part, reversal_words, layout_number, head_words, stations_part, places_part, counts_part, entries_part, book_words, places_at, book_in, reversal_length, places_start, counts_start, entries_start, matrix_start, right_start, book_length, stations_start}

-- ════ lengths
pub length_reversal : (u : Reversal) → length (reversal_words u) ≡ reversal_length
unfolding reversal_words
length_reversal u = ap suc (length_record u.prior)

pub length-station : (net : Network) (s : ℕ) → length (station_part net s) ≡ 4
unfolding station_part station_words
length-station net s = go (ltb s net.count)
  where
    go : (t : Bool) → length (cond t (station_words (station_at net.stations s)) (pos 0 ∷ pos 0 ∷ pos 0 ∷ pos 0 ∷ [])) ≡ 4
    go true = refl
    go false = refl

-- ════ the record that words give at a place
pub record_in_lem : (w : List ℤ) (p : ℕ) → p < 256 → record_at (book_in w).places p ≡ record_in w (places_start + p * record_length)
unfolding book_in
record_in_lem w p h =
    record_in_place (places_at w) p h
    ∙ record_moved (places_at w) w (p * record_length) (places_start + p * record_length)
    (λ j l. get_or-take places_length (drop places_start w) (p * record_length + j) (pos 0) (omega arith)
    ∙ get_or-drop places_start w (p * record_length + j) (pos 0)
    ∙ ap (λ (i : ℕ). get_or w i (pos 0)) (let e : places_start + (p * record_length + j) ≡ places_start + p * record_length + j = omega arith in e))

-- ════ a book
module _ (b : Book) (z : Sized b) where
  -- what stands behind the places, and behind the counters
  abbrev pub tail : List ℤ
  tail = counts_part b ++ (entries_part b ++ (b.normals.matrix ++ b.normals.right))

  pub length-stations : length (stations_part b) ≡ 128
  length-stations = length-concat_below 4 (station_part b.network) (length-station b.network) 32

  pub length-places_part : length (places_part b) ≡ 256 * record_length
  length-places_part = length-concat_below record_length _ (λ p. length_record (record_at b.places p)) 256

  pub length-entries : length (entries_part b) ≡ journal_size * reversal_length
  length-entries = length-concat_below reversal_length _ (λ k. length_reversal (get_or b.journal.entries k free)) journal_size

  -- what stands before each part
  abbrev pub to_stations : List ℤ
  to_stations = head_words b ++ stations_part b

  abbrev pub to_places : List ℤ
  to_places = to_stations ++ places_part b

  abbrev pub to_counts : List ℤ
  to_counts = to_places ++ counts_part b

  abbrev pub to_entries : List ℤ
  to_entries = to_counts ++ entries_part b

  pub length-to_stations : length to_stations ≡ places_start
  length-to_stations = length-append (head_words b) (stations_part b) ∙ ap (λ (n : ℕ). stations_start + n) length-stations

  pub length-to_places : length to_places ≡ counts_start
  length-to_places = length-append to_stations (places_part b) ∙ omega (arith, length-to_stations, length-places_part)

  pub length-to_counts : length to_counts ≡ entries_start
  length-to_counts = length-append to_places (counts_part b) ∙ ap (λ (n : ℕ). n + 2) length-to_places

  pub length-to_entries : length to_entries ≡ matrix_start
  length-to_entries = length-append to_counts (entries_part b) ∙ omega (arith, length-to_counts, length-entries)

  pub length_to_matrix : length (to_entries ++ b.normals.matrix) ≡ right_start
  length_to_matrix = length-append to_entries b.normals.matrix ∙ omega (arith, length-to_entries, z.matrix)

  pub at_places : book_words b ≡ to_stations ++ (places_part b ++ tail)
  unfolding book_words
  at_places = sym (append_assoc (head_words b) (stations_part b) (places_part b ++ tail))

  pub at-counts : book_words b ≡ to_places ++ tail
  at-counts = at_places ∙ sym (append_assoc to_stations (places_part b) tail)

  pub at-entries : book_words b ≡ to_counts ++ (entries_part b ++ (b.normals.matrix ++ b.normals.right))
  at-entries = at-counts ∙ sym (append_assoc to_places (counts_part b) (entries_part b ++ (b.normals.matrix ++ b.normals.right)))

  pub at_matrix : book_words b ≡ to_entries ++ (b.normals.matrix ++ b.normals.right)
  at_matrix = at-entries ∙ sym (append_assoc to_counts (entries_part b) (b.normals.matrix ++ b.normals.right))

  pub at_right : book_words b ≡ (to_entries ++ b.normals.matrix) ++ b.normals.right
  at_right = at_matrix ∙ sym (append_assoc to_entries b.normals.matrix b.normals.right)

  pub length_book : length (book_words b) ≡ book_length
  length_book = ap length at_right ∙ length-append (to_entries ++ b.normals.matrix) b.normals.right ∙ omega (arith, length_to_matrix, z.right)

  pub stations_part_lem : take 128 (drop stations_start (book_words b)) ≡ stations_part b
  unfolding book_words
  stations_part_lem = take_at (stations_part b) (places_part b ++ tail) 128 length-stations

  -- ════ word by word
  abbrev pub word : ℕ → ℤ
  word k = get_or (book_words b) k (pos 0)

  -- a word beyond a first part
  behind : (a c : List ℤ) (n k : ℕ) → book_words b ≡ a ++ c → length a ≡ n → word (n + k) ≡ get_or c k (pos 0)
  behind a c n k e l =
      ap (λ (x : List ℤ). get_or x (n + k) (pos 0)) e ∙ ap (λ (m : ℕ). get_or (a ++ c) (m + k) (pos 0)) (sym l) ∙ get_or-append-add a c k (pos 0)

  pub head_word : word 0 ≡ layout_number
  unfolding book_words
  head_word = refl

  pub count_word : word 1 ≡ signed b.network.count
  unfolding book_words
  count_word = refl

  pub station-word : (s j : ℕ) → s < 32 → j < 4 → word (stations_start + s * 4 + j) ≡ get_or (station_part b.network s) j (pos 0)
  unfolding book_words
  station-word s j h l = concat_below-between (head_words b) (places_part b ++ tail) 4 32 s j stations_start (station_part b.network) (pos 0) (length-station b.network) refl h l

  pub place_word : (p j : ℕ) → p < 256 → j < record_length → word (places_start + p * record_length + j) ≡ get_or (record_words (record_at b.places p)) j (pos 0)
  place_word p j h l =
      ap (λ (x : List ℤ). get_or x (places_start + p * record_length + j) (pos 0)) at_places
      ∙ concat_below-between to_stations tail record_length 256 p j places_start _ (pos 0) (λ k. length_record (record_at b.places k)) length-to_stations h l

  pub next_word : word counts_start ≡ signed b.journal.next
  next_word = behind to_places tail counts_start 0 at-counts length-to_places

  pub journal_count_word : word (counts_start + 1) ≡ signed b.journal.count
  journal_count_word = behind to_places tail counts_start 1 at-counts length-to_places

  pub slot_word : (k j : ℕ) → k < journal_size → j < reversal_length → word (entries_start + k * reversal_length + j) ≡ get_or (reversal_words (get_or b.journal.entries k free)) j (pos 0)
  slot_word k j h l =
      ap (λ (x : List ℤ). get_or x (entries_start + k * reversal_length + j) (pos 0)) at-entries
      ∙ concat_below-between to_counts (b.normals.matrix ++ b.normals.right) reversal_length journal_size k j entries_start _ (pos 0) (λ i. length_reversal (get_or b.journal.entries i free)) length-to_counts h l

  pub matrix_word : (k : ℕ) → k < 2304 → word (matrix_start + k) ≡ get_or b.normals.matrix k (pos 0)
  matrix_word k h =
      behind to_entries (b.normals.matrix ++ b.normals.right) matrix_start k at_matrix length-to_entries
      ∙ get_or-append b.normals.matrix b.normals.right (pos 0) k (let l = z.matrix in omega arith)

  pub right_word : (k : ℕ) → word (right_start + k) ≡ get_or b.normals.right k (pos 0)
  right_word k = behind (to_entries ++ b.normals.matrix) b.normals.right right_start k at_right length_to_matrix
