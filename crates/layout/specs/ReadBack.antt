-- A sound book's words read back as that book. Assumes nothing.
use Rattle.std.specs.Prelude.{ℕ, zero, suc, ◌+◌, ◌*◌, ◌<◌, ◌≤◌, ◌^◌, ◌≡◌, refl, Bool, true, false, cond, ◌&&◌, ◌||◌, ltb, length, get_or, take, drop, ℤ, pos}
use Rattle.std.proofs.Math.Path.{sym, ap}
use Rattle.std.proofs.Common.{◌∙◌, subst, add-zero, take_at, drop_at, take_all}
use mathlib.Core.List.{List, [], ◌∷◌, ◌++◌}
use Rattle.std.proofs.Math.Decide.{ℕ_discrete, dec_lt}
use native.Mathlib.Omega.{arith}
use Rattle.std.proofs.Math.Seq.{ext_get_or}
use Rattle.integers.specs.Tables.{tabulate, is-tabulate, length-tabulate}
use Rattle.words.specs.Bools.{and_left, and_right}
use Rattle.words.specs.Signed.{index_in, signed, unsigned, eq_z}
use Rattle.words.specs.SignedLaws.{eq_z_true, unsigned_signed}
use Rattle.lists.specs.All.{all_at}
use Rattle.network.specs.Stations.{blank_station, station_at, kind_at, kind_of, station_in, count_fits, coordinates_fit, unknowns_fit, is_known, is_blank, blank_beyond, network_fits}
use Rattle.network.specs.Records.{vacant, record_at}
use Rattle.network.specs.RecordWords.{record_in, record_length}
use Rattle.network.specs.Places.{places_in, length_places}
use Rattle.network.specs.Rules.{record_fits}
use Rattle.network.specs.RuleLaws.{network_few, fits_empty}
use Rattle.network.specs.declared.Kind.{Kind}
use Rattle.network.specs.declared.Kind.TheVariants.{Known, Free, Height}
use Rattle.network.specs.declared.Station.{Station}
use Rattle.network.specs.declared.Network.{Network}
use Rattle.network.specs.declared.Record.{Record}
use Rattle.normals.specs.declared.Normals.{Normals}
use Rattle.book.specs.declared.Reversal.{Reversal}
use Rattle.book.specs.declared.Book.{Book}
use Rattle.book.specs.Journal.{journal_size, age, free, is_free, slot_before, entries_before}
use Rattle.book.specs.Book.{undoable}
use Rattle.book.specs.JournalLaws.{is_free_lem}
use Rattle.book.specs.Sound.{Sized, SoundParts, Undoes, undoable-first}
use Rattle.words.specs.Concat.{concat_below-at}
use Rattle.layout.specs.BookWords.{record_in_lem, length-station, to_entries, length-to_entries, length_to_matrix, at_matrix, at_right, place_word, next_word, journal_count_word, slot_word, stations_part_lem}
use Rattle.network.specs.StationWords.{station_words, kind_back}
use Rattle.network.specs.RecordWordLaws.{record_back}
use Rattle.layout.specs.Layout.{station_part, reversal_words, stations_part, book_words, reversal_in, network_in, places_at, entries_in, journal_in, normals_in, book_in, reversal_length, places_start, counts_start, entries_start, matrix_start, right_start}

-- ════ a reversal
reversal_back : (w : List ℤ) (at : ℕ) (u : Reversal) → ((j : ℕ) → j < reversal_length → get_or w (at + j) (pos 0) ≡ get_or (reversal_words u) j (pos 0)) → u.place < 2 ^ 64 → reversal_in w at ≡ u
unfolding reversal_words
reversal_back w at u h small =
    let first : unsigned (get_or w at (pos 0)) ≡ u.place =
    ap (λ (k : ℕ). unsigned (get_or w k (pos 0))) (sym (add-zero at)) ∙ ap unsigned (h 0 (omega arith)) ∙ unsigned_signed u.place small in
    let rest : record_in w (at + 1) ≡ u.prior =
    record_back w (at + 1) u.prior (λ j l. ap (λ (k : ℕ). get_or w k (pos 0)) (omega arith) ∙ h (suc j) (omega arith)) in
    λ i. record { place = first i; prior = rest i }

-- ════ what a sound book's journal holds to restore, in every slot
pub record Restores (net : Network) (u : Reversal) : Type 0 where
  pub inside : u.place < 256
  pub fits : record_fits net u.prior ≡ true

in_use-restores : (net : Network) (entries : List Reversal) (n slot t : ℕ) (at : ℕ → Record) → slot < journal_size → t < journal_size → age slot t < n
    → undoable net at (entries_before entries slot n) ≡ true → Restores net (get_or entries t free)
unfolding entries_before
in_use-restores net entries zero slot t at s h l e = absurd (omega arith)
in_use-restores net entries (suc n) slot t at s h l e =
    let o = undoable-first net at (get_or entries (slot_before slot) free) (entries_before entries (slot_before slot) n) e in
    go o (λ q. in_use-restores net entries n (slot_before slot) t _ (omega arith) h (omega arith) o.rest) (ℕ_discrete t (slot_before slot))
  where
    go : Undoes net at (get_or entries (slot_before slot) free) (entries_before entries (slot_before slot) n) → ((t ≡ slot_before slot → ⊥) → Restores net (get_or entries t free)) → Dec (t ≡ slot_before slot)
        → Restores net (get_or entries t free)
    go o earlier (yes p) = subst (λ (k : ℕ). Restores net (get_or entries k free)) (sym p) (record { inside = o.inside; fits = o.fits })
    go o earlier (no q) = earlier q

free-restores : (net : Network) (u : Reversal) → is_free u ≡ true → Restores net u
free-restores net u e = subst (Restores net) (sym (is_free_lem u e)) (record { inside = omega arith; fits = fits_empty net })

pub entry_restores : (b : Book) → SoundParts b → (k : ℕ) → k < journal_size → Restores b.network (get_or b.journal.entries k free)
entry_restores b o k h = go (dec_lt (age b.journal.next k) b.journal.count)
  where
    go : Dec (age b.journal.next k < b.journal.count) → Restores b.network (get_or b.journal.entries k free)
    go (yes l) = in_use-restores b.network b.journal.entries b.journal.count b.journal.next k (record_at b.places) o.journal.next h l o.undoes
    go (no l) = free-restores b.network _ (o.journal.blank k h (omega arith))

-- ════ a station
known_is : (k : Kind) → is_known k ≡ true → k ≡ Known
unfolding is_known
known_is Known e = refl
known_is Free e = absurd (let z : ◌≡◌ {A = ℕ} 0 1 = ap (λ (t : Bool). cond t 1 0) e in omega arith)
known_is Height e = absurd (let z : ◌≡◌ {A = ℕ} 0 1 = ap (λ (t : Bool). cond t 1 0) e in omega arith)

blank_is : (s : Station) → is_blank s ≡ true → s ≡ blank_station
unfolding is_blank
blank_is s e =
    let k = is_known s.kind in
    let three = and_left (k && eq_z s.east (pos 0) && eq_z s.north (pos 0)) (eq_z s.up (pos 0)) e in
    let two = and_left (k && eq_z s.east (pos 0)) (eq_z s.north (pos 0)) three in
    let kind : s.kind ≡ Known = known_is s.kind (and_left k (eq_z s.east (pos 0)) two) in
    let east : s.east ≡ pos 0 = eq_z_true _ _ (and_right k (eq_z s.east (pos 0)) two) in
    let north : s.north ≡ pos 0 = eq_z_true _ _ (and_right (k && eq_z s.east (pos 0)) (eq_z s.north (pos 0)) three) in
    let up : s.up ≡ pos 0 = eq_z_true _ _ (and_right (k && eq_z s.east (pos 0) && eq_z s.north (pos 0)) (eq_z s.up (pos 0)) e) in
    λ i. record { kind = kind i; east = east i; north = north i; up = up i }

beyond_blank : (net : Network) → network_fits net ≡ true → (s : ℕ) → s < 32 → ltb s net.count ≡ false → station_at net.stations s ≡ blank_station
unfolding network_fits blank_beyond
beyond_blank net e s h f =
    let two = and_left (count_fits net.count && blank_beyond net) (coordinates_fit net.stations) (and_left _ (unknowns_fit net.stations) e) in
    let all = and_right (count_fits net.count) (blank_beyond net) two in
    blank_is _ (ap (λ (t : Bool). t || is_blank (station_at net.stations s)) (sym f) ∙ all_at 32 (λ k. ltb k net.count || is_blank (station_at net.stations k)) s all h)

-- the words of a station read back; four words that are 0 are a blank one
station_words_lem : (x : Station) (w : List ℤ) (s : ℕ) → ((j : ℕ) → j < 4 → get_or w (s * 4 + j) (pos 0) ≡ get_or (station_words x) j (pos 0)) → station_in w s ≡ x
unfolding station_in station_words
station_words_lem x w s at =
    let kind : kind_of (get_or w (s * 4) (pos 0)) ≡ x.kind =
    ap (λ (k : ℕ). kind_of (get_or w k (pos 0))) (sym (add-zero (s * 4))) ∙ ap kind_of (at 0 (omega arith)) ∙ kind_back x.kind in
    λ i. record { kind = kind i; east = at 1 (omega arith) i; north = at 2 (omega arith) i; up = at 3 (omega arith) i }

abbrev zeros : List ℤ
zeros = pos 0 ∷ pos 0 ∷ pos 0 ∷ pos 0 ∷ []

station-zeros : (w : List ℤ) (s : ℕ) → ((j : ℕ) → j < 4 → get_or w (s * 4 + j) (pos 0) ≡ get_or zeros j (pos 0)) → station_in w s ≡ blank_station
unfolding station_in kind_at index_in
station-zeros w s at =
    let kind : kind_of (get_or w (s * 4) (pos 0)) ≡ Known =
    ap (λ (k : ℕ). kind_of (get_or w k (pos 0))) (sym (add-zero (s * 4))) ∙ ap kind_of (at 0 (omega arith)) in
    λ i. record { kind = kind i; east = at 1 (omega arith) i; north = at 2 (omega arith) i; up = at 3 (omega arith) i }

pub station-back : (net : Network) (w : List ℤ) (s : ℕ) → network_fits net ≡ true → s < 32 → ((j : ℕ) → j < 4 → get_or w (s * 4 + j) (pos 0) ≡ get_or (station_part net s) j (pos 0))
    → station_in w s ≡ station_at net.stations s
unfolding station_part
station-back net w s e h at = go (ltb s net.count) refl
  where
    go : (t : Bool) → ltb s net.count ≡ t → station_in w s ≡ station_at net.stations s
    go true q =
        station_words_lem (station_at net.stations s) w s
        (λ j l. at j l ∙ ap (λ (t : Bool). get_or (cond t (station_words (station_at net.stations s)) zeros) j (pos 0)) q)
    go false q =
        station-zeros w s (λ j l. at j l ∙ ap (λ (t : Bool). get_or (cond t (station_words (station_at net.stations s)) zeros) j (pos 0)) q)
        ∙ sym (beyond_blank net e s h q)

-- ════ a book. What is true of every value, the length of the station list, stands beside Sound
pub sound-sized : (b : Book) → SoundParts b → Sized b
sound-sized b o =
    record {
      places = o.places;
      entries = o.entries;
      matrix = ap (λ (n : Normals). length n.matrix) o.normals ∙ length-tabulate 2304 _;
      right = ap (λ (n : Normals). length n.right) o.normals ∙ length-tabulate 48 _;
    }

module _ (b : Book) (o : SoundParts b) (long : length b.network.stations ≡ 32) where
  sized : Sized b
  sized = sound-sized b o

  abbrev w : List ℤ
  w = book_words b

  -- ════ each part read back
  network-back : network_in w ≡ b.network
  unfolding book_words
  network-back =
      let few : b.network.count ≤ 32 = network_few b.network o.network in
      let part = stations_part_lem b sized in
      let count : unsigned (signed b.network.count) ≡ b.network.count = unsigned_signed b.network.count (omega arith) in
      let stations : tabulate 32 (station_in (stations_part b)) ≡ b.network.stations =
      sym (is-tabulate 32 (station_in (stations_part b)) b.network.stations blank_station long
      (λ s h. sym (station-back b.network (stations_part b) s o.network h
      (λ j l. concat_below-at 4 (station_part b.network) (length-station b.network) 32 s j (pos 0) h l)))) in
      λ i. record { count = count i; stations = (ap (λ (l : List ℤ). tabulate 32 (station_in l)) part ∙ stations) i }

  places_back : places_in (places_at w) ≡ b.places
  unfolding book_in
  places_back =
      let long = length_places (places_at w) in
      ext_get_or vacant _ _ (long ∙ sym o.places)
      (λ p l.
      let h : p < 256 = omega arith in
      ap (λ (r : Record). record { entry = r })
      (record_in_lem w p h ∙ record_back w (places_start + p * record_length) (record_at b.places p) (λ j k. place_word b sized p j h k)))

  entries-back : entries_in w ≡ b.journal.entries
  entries-back =
      sym (is-tabulate journal_size (λ k. reversal_in w (entries_start + k * reversal_length)) b.journal.entries free o.entries
      (λ k h. sym (reversal_back w (entries_start + k * reversal_length) (get_or b.journal.entries k free)
      (λ j l. slot_word b sized k j h l)
      (let q = (entry_restores b o k h).inside in omega arith))))

  journal_back : journal_in w ≡ b.journal
  journal_back =
      let next : unsigned (get_or w counts_start (pos 0)) ≡ b.journal.next =
      ap unsigned (next_word b sized) ∙ unsigned_signed b.journal.next (let q = o.journal.next in omega arith) in
      let count : unsigned (get_or w (counts_start + 1) (pos 0)) ≡ b.journal.count =
      ap unsigned (journal_count_word b sized) ∙ unsigned_signed b.journal.count (let q = o.journal.count in omega arith) in
      λ i. record { entries = entries-back i; next = next i; count = count i }

  normals_back : normals_in w ≡ b.normals
  normals_back =
      let matrix : take 2304 (drop matrix_start w) ≡ b.normals.matrix =
      ap (λ (x : List ℤ). take 2304 (drop matrix_start x)) (at_matrix b sized)
      ∙ ap (take 2304) (drop_at (to_entries b sized) (b.normals.matrix ++ b.normals.right) matrix_start (length-to_entries b sized))
      ∙ take_at b.normals.matrix b.normals.right 2304 sized.matrix in
      let right : take 48 (drop right_start w) ≡ b.normals.right =
      ap (λ (x : List ℤ). take 48 (drop right_start x)) (at_right b sized)
      ∙ ap (take 48) (drop_at (to_entries b sized ++ b.normals.matrix) b.normals.right right_start (length_to_matrix b sized))
      ∙ take_all 48 b.normals.right (omega (arith, sized.right)) in
      λ i. record { matrix = matrix i; right = right i }

  pub book_back : book_in (book_words b) ≡ b
  unfolding book_in
  book_back = λ i. record { network = network-back i; places = places_back i; journal = journal_back i; normals = normals_back i }
