-- The cases of the calls that read a book. Assumes nothing.
use Prim.Native.Nat.{ℕ, ◌+◌, ◌-◌, ◌*◌, ◌/◌, ◌<◌, ◌≤◌}
use mathlib.Core.Path.{◌≡◌, sym, ap, ap₂, ◌∙◌}
use mathlib.Core.Bool.{true, false}
use mathlib.Core.List.{List}
use native.Mathlib.Omega.{arith}
use borrow.Author.Tests.{lt-ltb, le-ltb, lt-leb, le-leb}
use lib.Dec.{ltb}
use lib.ListN.{length, take, drop}
use lib.IntN.{ℤ, pos}
use Rattle.words.specs.Signed.{index_in}
use Rattle.words.specs.SignedLaws.{index_test}
use Rattle.words.specs.Runs.{put_words}
use Rattle.network.specs.Stations.{station_at, unknown_count}
use Rattle.network.specs.StationWords.{station_words}
use Rattle.network.specs.Records.{record_at}
use Rattle.network.specs.Rules.{in_list}
use Rattle.network.specs.RuleLaws.{network_few}
use Rattle.network.specs.declared.Network.{Network}
use Rattle.network.specs.declared.Record.{Record}
use Rattle.sheet.specs.Sheet.{room}
use Rattle.words.specs.Concat.{concat_below, concat_below_front, concat_below-ext}
use Rattle.network.specs.RecordWords.{record_words}
use Rattle.layout.specs.Layout.{stations_start, station_part}
use Rattle.layout.specs.BookWords.{length-station, stations_part_lem}
use Rattle.layout.specs.Bytes.{words_of, book_of, bytes_fit}
use Rattle.layout.specs.CodecLaws.{read_sized, fits_words, fits-sound}
use Rattle.dombrelat.specs.Calls.{Returned, refused_with}
use Rattle.dombrelat.specs.Reading.{numbered, gives, list_words, unknowns_call, sheet_bytes_call, stations_call, record_call}

-- ════ calls that give a number alone
module _ (s : List ℕ) where
  pub unknowns_unfit : bytes_fit s ≡ false → pos 25 ≡ unknowns_call s
  unfolding unknowns_call
  unknowns_unfit e = rw e

  pub unknowns_fit_lem : (net : Network) (n : ℕ) → bytes_fit s ≡ true → net ≡ (book_of s).network → n ≡ unknown_count net.stations → numbered n ≡ unknowns_call s
  unfolding unknowns_call
  unknowns_fit_lem net n e p q = rw e (ap numbered (q ∙ ap (λ (x : Network). unknown_count x.stations) p))

  pub sheet_bytes_unfit : bytes_fit s ≡ false → pos 25 ≡ sheet_bytes_call s
  unfolding sheet_bytes_call
  sheet_bytes_unfit e = rw e

  pub sheet_bytes_fit : (n : ℕ) → bytes_fit s ≡ true → n ≡ room (book_of s).network (book_of s).places → numbered (8 * n) ≡ sheet_bytes_call s
  unfolding sheet_bytes_call
  sheet_bytes_fit n e r = rw e (ap (λ (k : ℕ). numbered (8 * k)) r)

-- ════ words at the front of a slice
module _ (number : ℕ) (w : List ℤ) (out : List ℕ) where
  pub gives_none : length out / 8 < length w → refused_with 10 out ≡ gives number w out
  unfolding gives
  gives_none h = rw (lt-leb (8 * length w) (length out) (omega arith))

  pub gives_all : length w ≤ length out / 8 → record { answer = numbered number; bytes = put_words out 0 w } ≡ gives number w out
  unfolding gives
  gives_all h = rw (le-leb (8 * length w) (length out) (omega arith))

-- an answer and bytes, each equal to that of a call
pub both : (r t : Returned) (a : ℤ) (o : List ℕ) → r ≡ t → (a ≡ r.answer) × (o ≡ r.bytes) → (a ≡ t.answer) × (o ≡ t.bytes)
both r t a o e p = (p.0 ∙ ap (λ (x : Returned). x.answer) e, p.1 ∙ ap (λ (x : Returned). x.bytes) e)

-- ════ the station list
list_front : (net : Network) → net.count ≤ 32 → take (4 * net.count) (concat_below 32 (station_part net)) ≡ list_words net
unfolding list_words station_part
list_front net few =
    let n = net.count in
    let all : n + (32 - n) ≡ 32 = omega arith in
    let long : 4 * n ≡ n * 4 = omega arith in
    ap₂ (λ (k m : ℕ). take k (concat_below m (station_part net))) long (sym all)
    ∙ concat_below_front 4 (station_part net) (length-station net) n (32 - n)
    ∙ concat_below-ext n (station_part net) (λ k. station_words (station_at net.stations k)) (λ k h. rw (lt-ltb k n h))

module _ (s list : List ℕ) where
  pub stations_unfit : bytes_fit s ≡ false → refused_with 25 list ≡ stations_call s list
  unfolding stations_call
  stations_unfit e = rw e

  pub stations-fit : (net : Network) (w : List ℤ) → bytes_fit s ≡ true → net ≡ (book_of s).network → w ≡ take 128 (drop stations_start (words_of s))
      → gives net.count (take (4 * net.count - 0) w) list ≡ stations_call s list
  unfolding stations_call
  stations-fit net w e p q =
      let b = book_of s in
      let part : w ≡ concat_below 32 (station_part b.network) = q ∙ ap (λ (l : List ℤ). take 128 (drop stations_start l)) (fits_words s e) ∙ stations_part_lem b (read_sized s) in
      let long : 4 * net.count - 0 ≡ 4 * net.count = omega arith in
      let words : take (4 * net.count - 0) w ≡ list_words b.network =
      ap₂ take (long ∙ ap (λ (x : Network). 4 * x.count) p) part ∙ list_front b.network (network_few b.network (fits-sound s e).network) in
      rw e (ap₂ (λ (x : Network) (l : List ℤ). gives x.count l list) p words)

-- ════ a record
module _ (s : List ℕ) (place : ℤ) (out : List ℕ) where
  pub record_unfit : bytes_fit s ≡ false → refused_with 25 out ≡ record_call s place out
  unfolding record_call
  record_unfit e = rw e

  pub record_beyond : (i : ℕ) → bytes_fit s ≡ true → i ≡ index_in place 256 → 256 ≤ i → refused_with 2 out ≡ record_call s place out
  unfolding record_call
  record_beyond i e p q = rw (e, ← index_test place 256, ← p, le-ltb i 256 q)

  pub record_fit : (i : ℕ) (r : Record) (w : List ℤ) → bytes_fit s ≡ true → i ≡ index_in place 256 → i < 256 → r ≡ record_at (book_of s).places i → w ≡ record_words r
      → gives 0 w out ≡ record_call s place out
  unfolding record_call
  record_fit i r w e p h q k =
      let inside : in_list 256 place ≡ true = sym (index_test place 256) ∙ ap (λ (j : ℕ). ltb j 256) (sym p) ∙ lt-ltb i 256 h in
      let words : w ≡ record_words (record_at (book_of s).places (index_in place 256)) = k ∙ ap record_words (q ∙ ap (record_at (book_of s).places) p) in
      rw (e, inside) (ap (λ (l : List ℤ). gives 0 l out) words)
