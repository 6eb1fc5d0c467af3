-- What the reading calls give back: the station list that the book was opened on, after any run of edits, and what an accepted edit put at its place. Assumes nothing.
use Rattle.std.specs.Prelude.{ℕ, zero, suc, ◌+◌, ◌*◌, ◌/◌, ◌%◌, ◌<◌, ◌≤◌, ◌≡◌, refl, List, [], ◌∷◌, eqb, leb, ℤ, pos}
use Rattle.std.proofs.Math.Path.{sym, ap}
use Rattle.std.proofs.Common.{ap₂, ◌∙◌, subst, add-zero, get_or-set_same, SFits}
use Rattle.std.proofs.Math.Bool.{true}
use Rattle.std.proofs.Math.Decide.{dec_lt}
use native.Mathlib.Omega.{arith}
use borrow.Author.Tests.{eqb-true, eq-eqb, leb-true, ltb-true, lt-ltb, le-ltb, le-leb}
use Rattle.std.proofs.Math.ListN.{length, get_or, get_or-eq_default}
use Rattle.std.proofs.Math.Seq.{ext_get_or}
use Rattle.std.specs.Int.{w64}
use Rattle.integers.specs.Tables.{tabulate, get_d_tabulate, is-tabulate}
use Rattle.words.specs.Bools.{and_right}
use Rattle.words.specs.Signed.{index_in}
use Rattle.words.specs.SignedLaws.{index_test, index_number}
use Rattle.words.specs.Runs.{words_at, put_words}
use Rattle.words.specs.RunLaws.{length_words, length_run, run_back}
use Rattle.lists.specs.All.{Each, each, each_by, all_at, all_by}
use Rattle.network.specs.Stations.{blank_station, station_at, kind_at, kind_of, is_kind, station_in, network_of, count_fits, coordinates_fit, unknowns_fit, kinds_fit, whole_stations, blank_beyond, network_fits}
use Rattle.network.specs.Stations as stations
use Rattle.network.specs.StationWords.{kind_word, station_words}
use Rattle.network.specs.Records.{vacant, record_at}
use Rattle.network.specs.Rules.{in_list}
use Rattle.network.specs.RuleLaws.{network_few}
use Rattle.network.specs.declared.Kind.{Kind}
use Rattle.network.specs.declared.Kind.TheVariants.{Known, Free, Height}
use Rattle.network.specs.declared.Network.{Network}
use Rattle.network.specs.declared.Station.{Station}
use Rattle.network.specs.declared.Place.{Place}
use Rattle.network.specs.declared.Record.{Record}
use Rattle.book.specs.declared.Book.{Book}
use Rattle.book.specs.Outcome.{Outcome}
use Rattle.book.specs.declared.Change.{Change}
use Rattle.book.specs.declared.Call.{Call}
use Rattle.book.specs.declared.Call.TheVariants as call
use Rattle.book.specs.Calls.{place_of, place_no, call_no, puts, unless}
use Rattle.book.specs.CallLaws.{first_zero, place_inside}
use Rattle.book.specs.Book.{opened_book, opening, edited, book_accepts}
use Rattle.words.specs.Concat.{length-concat_below, concat_below-at}
use Rattle.network.specs.RecordWords.{record_words}
use Rattle.layout.specs.Layout.{station_part, book_bytes}
use Rattle.network.specs.RecordWordLaws.{length_record}
use Rattle.layout.specs.BookWords.{station-word}
use Rattle.layout.specs.WordSizes.{book_words-fit}
use Rattle.layout.specs.ReadBack.{station-back}
use Rattle.layout.specs.Bytes.{book_of, put_book, bytes_fit}
use Rattle.layout.specs.CodecLaws.{read_sized, read_stations, fits-sound}
use Rattle.lent_checks.specs.LentChecks.{all_words}
use Rattle.dombrelat.specs.Calls.{Returned, answered_with, edit_call, bytes_next, open_call}
use Rattle.dombrelat.specs.Reading.{numbered, gives, list_words, stations_call, record_call}
use Rattle.dombrelat.specs.Demand3.{bytes_after}
use Rattle.dombrelat.specs.Demand3Holds.{edited-next, opened_after}

-- ════ the words of a station list
even : (net : Network) (k : ℕ) → length (station_words (station_at net.stations k)) ≡ 4
unfolding station_words
even net k = refl

list_length : (net : Network) → length (list_words net) ≡ net.count * 4
unfolding list_words
list_length net = length-concat_below 4 (λ k. station_words (station_at net.stations k)) (even net) net.count

list_at : (net : Network) (k j : ℕ) → k < net.count → j < 4 → get_or (list_words net) (k * 4 + j) (pos 0) ≡ get_or (station_words (station_at net.stations k)) j (pos 0)
unfolding list_words
list_at net k j h l = concat_below-at 4 (λ i. station_words (station_at net.stations i)) (even net) net.count k j (pos 0) h l

-- ════ a list that opens: its words are those of the network that it gives
kind_number : (k : ℕ) → k < 3 → kind_word (kind_at k) ≡ pos (suc k)
unfolding kind_word kind_at
kind_number zero h = refl
kind_number (suc zero) h = refl
kind_number (suc (suc zero)) h = refl
kind_number (suc (suc (suc k))) h = absurd (omega arith)

kind_word_lem : (v : ℤ) → is_kind v ≡ true → kind_word (kind_of v) ≡ v
kind_word_lem v e =
    let h : index_in v 3 < 3 = ltb-true _ _ (index_test v 3 ∙ e) in
    kind_number (index_in v 3) h ∙ sym (index_number v 3 h)

word_same : (w : List ℤ) (k j : ℕ) → j < 4 → is_kind (get_or w (k * 4) (pos 0)) ≡ true → get_or (station_words (station_in w k)) j (pos 0) ≡ get_or w (k * 4 + j) (pos 0)
unfolding station_words station_in
word_same w k zero h e = kind_word_lem _ e ∙ ap (λ (i : ℕ). get_or w i (pos 0)) (sym (add-zero (k * 4)))
word_same w k (suc zero) h e = refl
word_same w k (suc (suc zero)) h e = refl
word_same w k (suc (suc (suc zero))) h e = refl
word_same w k (suc (suc (suc (suc j)))) h e = absurd (omega arith)

module _ (w : List ℤ) (e : stations.opens w ≡ true) where
  tests : Each (whole_stations w ∷ count_fits (length w / 4) ∷ kinds_fit w ∷ coordinates_fit (network_of w).stations ∷ unknowns_fit (network_of w).stations ∷ [])
  unfolding stations.opens
  tests = each (whole_stations w ∷ count_fits (length w / 4) ∷ kinds_fit w ∷ coordinates_fit (network_of w).stations ∷ unknowns_fit (network_of w).stations ∷ []) e

  pub list_words-same : list_words (network_of w) ≡ w
  unfolding network_of whole_stations kinds_fit
  list_words-same =
      let n = length w / 4 in
      let whole : length w % 4 ≡ 0 = eqb-true _ _ tests.0 in
      let few : n ≤ 32 = leb-true _ _ (and_right (leb 1 n) (leb n 32) tests.1.0) in
      let long : length (list_words (network_of w)) ≡ length w = list_length (network_of w) ∙ omega arith in
      ext_get_or (pos 0) _ w long
      (λ i h.
      let k = i / 4 in
      let j = i % 4 in
      let inside : k < n = omega arith in
      let below : j < 4 = omega arith in
      let at : i ≡ k * 4 + j = omega arith in
      ap (λ (q : ℕ). get_or (list_words (network_of w)) q (pos 0)) at
      ∙ list_at (network_of w) k j inside below
      ∙ ap (λ (s : Station). get_or (station_words s) j (pos 0)) (get_d_tabulate 32 (station_in w) k blank_station (omega arith))
      ∙ word_same w k j below (all_at n _ k tests.1.1.0 inside)
      ∙ ap (λ (q : ℕ). get_or w q (pos 0)) (sym at))

-- ════ a network by the rules: an opening on its words gives it again
zeros-at : (j : ℕ) → get_or (pos 0 ∷ pos 0 ∷ pos 0 ∷ pos 0 ∷ []) j (pos 0) ≡ pos 0
zeros-at zero = refl
zeros-at (suc zero) = refl
zeros-at (suc (suc zero)) = refl
zeros-at (suc (suc (suc zero))) = refl
zeros-at (suc (suc (suc (suc j)))) = refl

part_at : (net : Network) (s j : ℕ) → j < 4 → get_or (list_words net) (s * 4 + j) (pos 0) ≡ get_or (station_part net s) j (pos 0)
unfolding station_part
part_at net s j l = go (dec_lt s net.count)
  where
    go : Dec (s < net.count) → get_or (list_words net) (s * 4 + j) (pos 0) ≡ get_or (station_part net s) j (pos 0)
    go (yes h) = rw (lt-ltb s net.count h) (list_at net s j h l)
    go (no h) =
        let beyond : net.count ≤ s = omega arith in
        let g : length (list_words net) ≤ s * 4 + j = omega (arith, list_length net) in
        rw (le-ltb s net.count beyond) (get_or-eq_default (list_words net) (pos 0) {n = s * 4 + j} g ∙ sym (zeros-at j))

pub list_back : (net : Network) → network_fits net ≡ true → length net.stations ≡ 32 → network_of (list_words net) ≡ net
unfolding network_of
list_back net e long =
    let w = list_words net in
    let count : length w / 4 ≡ net.count = let q = list_length net in omega arith in
    let same : tabulate 32 (station_in w) ≡ net.stations =
    sym (is-tabulate 32 (station_in w) net.stations blank_station long (λ s h. sym (station-back net w s e h (λ j l. part_at net s j l)))) in
    λ i. record { count = count i; stations = same i }

is_kind_lem : (k : Kind) → is_kind (kind_word k) ≡ true
unfolding kind_word
is_kind_lem Known = refl
is_kind_lem Free = refl
is_kind_lem Height = refl

list_opens : (net : Network) → network_fits net ≡ true → length net.stations ≡ 32 → stations.opens (list_words net) ≡ true
unfolding stations.opens network_fits whole_stations kinds_fit station_words
list_opens net e long =
    let w = list_words net in
    let n = list_length net in
    let rules = each (count_fits net.count ∷ blank_beyond net ∷ coordinates_fit net.stations ∷ unknowns_fit net.stations ∷ []) e in
    let back : (network_of w).stations ≡ net.stations = ap (λ (x : Network). x.stations) (list_back net e long) in
    let count : length w / 4 ≡ net.count = omega arith in
    let kind : (k : ℕ) → k < length w / 4 → is_kind (get_or w (k * 4) (pos 0)) ≡ true =
    λ k h. ap (λ (i : ℕ). is_kind (get_or w i (pos 0))) (sym (add-zero (k * 4))) ∙ ap is_kind (list_at net k 0 (omega arith) (omega arith)) ∙ is_kind_lem (station_at net.stations k).kind in
    each_by (whole_stations w ∷ count_fits (length w / 4) ∷ kinds_fit w ∷ coordinates_fit (network_of w).stations ∷ unknowns_fit (network_of w).stations ∷ [])
    (eq-eqb _ _ (let z : length w % 4 ≡ 0 = omega arith in z), (ap count_fits count ∙ rules.0, (all_by (length w / 4) _ kind, (ap coordinates_fit back ∙ rules.1.1.0, (ap unknowns_fit back ∙ rules.1.1.1.0, tt)))))

-- every word of it fits 64 bits: it stands in the book
list_fits : (s : List ℕ) → bytes_fit s ≡ true → (i : ℕ) → SFits w64 (get_or (list_words (book_of s).network) i (pos 0))
list_fits s e i = go (dec_lt i 128)
  where
    go : Dec (i < 128) → SFits w64 (get_or (list_words (book_of s).network) i (pos 0))
    go (yes h) =
        let k = i / 4 in
        let j = i % 4 in
        let below : j < 4 = omega arith in
        let at : k * 4 + j ≡ i = omega arith in
        subst (λ (z : ℤ). SFits w64 z)
        (station-word (book_of s) (read_sized s) k j (omega arith) below ∙ sym (part_at (book_of s).network k j below) ∙ ap (λ (q : ℕ). get_or (list_words (book_of s).network) q (pos 0)) at)
        (book_words-fit (book_of s) (fits-sound s e) (2 + k * 4 + j))
    go (no h) =
        let few : (book_of s).network.count ≤ 32 = network_few (book_of s).network (fits-sound s e).network in
        let beyond : length (list_words (book_of s).network) ≤ i = omega (arith, list_length (book_of s).network) in
        subst (λ (z : ℤ). SFits w64 z) (sym (get_or-eq_default (list_words (book_of s).network) (pos 0) {n = i} beyond)) (record { sfits = omega arith })

-- ════ after an accepted opening and any run of edits, the list that it was opened on is written
gives-room : (number : ℕ) (w : List ℤ) (out : List ℕ) → 8 * length w ≤ length out → gives number w out ≡ record { answer = numbered number; bytes = put_words out 0 w }
unfolding gives
gives-room number w out h = rw (le-leb (8 * length w) (length out) h)

stations-fit : (s out : List ℕ) → bytes_fit s ≡ true → 8 * length (list_words (book_of s).network) ≤ length out
    → stations_call s out ≡ record { answer = numbered (book_of s).network.count; bytes = put_words out 0 (list_words (book_of s).network) }
unfolding stations_call
stations-fit s out e room = rw e (gives-room (book_of s).network.count (list_words (book_of s).network) out room)

pub stations-opened : (list s : List ℕ) → (open_call list s).answer ≡ pos 0 → (calls : List Call) (out : List ℕ) → length list ≤ length out
    → stations_call (bytes_after list s calls) out ≡ record { answer = numbered (length list / 32); bytes = put_words out 0 (all_words list) }
unfolding stations_call network_of
stations-opened list s a calls out room =
    let h = opened_after list s a calls in
    let w = all_words list in
    let long = length_words list 0 (length list / 8) in
    let count : length w / 4 ≡ length list / 32 = omega arith in
    rw h.fits
    (ap (λ (net : Network). gives net.count (list_words net) out) h.network
    ∙ ap₂ (λ (n : ℕ) (l : List ℤ). gives n l out) count (list_words-same w h.accepts)
    ∙ gives-room (length list / 32) w out (omega arith))

-- ════ of any bytes that hold a book: an opening on the list that is written gives a book of the same stations
pub opens_again : (s out t : List ℕ) → bytes_fit s ≡ true → length out ≡ 32 * (book_of s).network.count → book_bytes ≤ length t
    → open_call (stations_call s out).bytes t ≡ record { answer = pos 0; bytes = put_book t (opened_book (book_of s).network) }
unfolding open_call unless
opens_again s out t e long room =
    let net = (book_of s).network in
    let w = list_words net in
    let n = list_length net in
    let list = put_words out 0 w in
    let is : (stations_call s out).bytes ≡ list = ap (λ (r : Returned). r.bytes) (stations-fit s out e (omega arith)) in
    let bytes : length list ≡ 32 * net.count = length_run out 0 w ∙ long in
    let even : eqb (length list % 32) 0 ≡ true = eq-eqb _ _ (let z : length list % 32 ≡ 0 = omega arith in z) in
    let count : length list / 8 ≡ length w = omega arith in
    let read : words_at list 0 (length list / 8) ≡ w = ap (words_at list 0) count ∙ run_back out 0 w (let z : 0 + 8 * length w ≤ length out = omega arith in z) (list_fits s e) in
    let o = (fits-sound s e).network in
    let opened : opening w ≡ record { refusal = 0; book = opened_book net } = rw (list_opens net o (read_stations s), list_back net o (read_stations s)) in
    ap (λ (l : List ℕ). open_call l t) is
    ∙ rw (le-leb book_bytes (length t) room, even) (ap (λ (x : Outcome). answered_with t x) (ap opening read ∙ opened))

-- ════ what an accepted edit put at its place
module _ (s : List ℕ) (p : ℤ) (c : Change) (out : List ℕ) (room : 112 ≤ length out) where
  pub record_edited : (edit_call s (call.Edit p c)).answer ≡ pos 0 → record_call (edit_call s (call.Edit p c)).bytes p out ≡ record { answer = pos 0; bytes = put_words out 0 (record_words (puts c)) }
  unfolding record_call unless book_accepts call_no
  record_edited a =
      let e = call.Edit p c in
      let h = edited-next s e a in
      let i = place_of p in
      let r = puts c in
      let inside : i < 256 = place_inside p (first_zero (place_no p) _ h.says).0 in
      let listed : in_list 256 p ≡ true = sym (index_test p 256) ∙ lt-ltb i 256 inside in
      let b : book_of (bytes_next s e) ≡ edited (book_of s) i r = h.reads ∙ ap (λ (n : ℕ). unless n (book_of s) (book_accepts (book_of s) e)) h.says in
      let long : i < length (book_of s).places = let q = (read_sized s).places in omega arith in
      let here : record_at (book_of (bytes_next s e)).places i ≡ r =
      ap (λ (x : Book). record_at x.places i) b ∙ ap (λ (q : Place). q.entry) (get_or-set_same (book_of s).places i (record { entry = r }) vacant long) in
      rw (h.fits, listed)
      (ap (λ (x : Record). gives 0 (record_words x) out) here ∙ gives-room 0 (record_words r) out (omega (arith, length_record r)))
