-- Words of bytes, one by one, those of a record and of a station, and parts written one behind the other. Assumes nothing.
use Prim.Native.Nat.{ℕ, zero, suc, ◌+◌, ◌*◌, ◌<◌, ◌≤◌}
use mathlib.Core.Path.{◌≡◌, refl, sym, ap, ap₂, ◌∙◌}
use mathlib.Core.Bool.{Bool, cond}
use mathlib.Core.List.{List, [], ◌∷◌}
use native.Mathlib.Omega.{arith}
use native.Mathlib.Numerals.{add-one}
use lib.Dec.{ltb}
use lib.ListN.{length, get_or, take, drop}
use lib.Seq.{get_or-take, get_or-drop}
use lib.IntN.{ℤ, pos}
use Rattle.words.specs.Signed.{eq_z}
use Rattle.words.specs.Words.{word_at}
use Rattle.words.specs.Runs.{words_at, put_words}
use Rattle.words.specs.RunLaws.{length_words, words_at_lem}
use Rattle.lists.specs.All.{all_below}
use Rattle.network.specs.Stations.{station_at}
use Rattle.network.specs.declared.Network.{Network}
use Rattle.network.specs.RecordWords.{record_in, record_words, record_length}
use Rattle.network.specs.declared.Record.{Record}
use Rattle.lists.specs.Same.{same_entries}
use Rattle.words.specs.Concat.{concat_below, concat_below-more, length-concat_below}
use Rattle.network.specs.StationWords.{station_words}
use Rattle.network.specs.RecordWordLaws.{record_moved}
use Rattle.layout.specs.Layout.{station_part, network_in, book_in, book_length, stations_start}
use Rattle.layout.specs.Laid.{record_laid, station_laid}
use Rattle.layout.specs.Bytes.{words_of, book_of}
use Rattle.layout.specs.RunPatches.{run_append}

pub word-is : (s : List ℕ) (k : ℕ) → k < book_length → word_at s (8 * k) ≡ get_or (words_of s) k (pos 0)
word-is s k h = ap (word_at s) (let e : 8 * k ≡ 0 + 8 * k = omega arith in e) ∙ sym (words_at_lem s 0 book_length k h)

all_same : (n : ℕ) (p q : ℕ → Bool) → ((j : ℕ) → j < n → p j ≡ q j) → all_below n p ≡ all_below n q
unfolding all_below
all_same zero p q e = refl
all_same (suc n) p q e = cc (all_same n p q (λ j l. e j (omega arith)), e n (omega arith))

-- word j of the n words from word k on
pub run_word-is : (s : List ℕ) (k n : ℕ) → k + n ≤ book_length → (j : ℕ) → j < n → get_or (words_at s (8 * k) n) j (pos 0) ≡ get_or (words_of s) (k + j) (pos 0)
run_word-is s k n h j l =
    words_at_lem s (8 * k) n j l ∙ ap (word_at s) (let e : 8 * k + 8 * j ≡ 0 + 8 * (k + j) = omega arith in e) ∙ sym (words_at_lem s 0 book_length (k + j) (omega arith))

-- the words of a record, from word k on
module _ (s : List ℕ) (k : ℕ) (h : k + record_length ≤ book_length) where
  record_word : (j : ℕ) → j < record_length → get_or (words_at s (8 * k) record_length) j (pos 0) ≡ get_or (words_of s) (k + j) (pos 0)
  record_word = run_word-is s k record_length h

  pub record_is : record_in (words_at s (8 * k) record_length) 0 ≡ record_in (words_of s) k
  record_is =
      record_moved (words_at s (8 * k) record_length) (words_of s) 0 k
      (λ j l. ap (λ (i : ℕ). get_or (words_at s (8 * k) record_length) i (pos 0)) (let e : 0 + j ≡ j = omega arith in e) ∙ record_word j l)

  pub laid_is : (w v : List ℤ) (r : Record) → w ≡ words_at s (8 * k) record_length → r ≡ record_in w 0 → v ≡ record_words r → same_entries (length w) w v ≡ record_laid (words_of s) k
  unfolding record_laid
  laid_is w v r p q e =
      let long : length w ≡ record_length = ap length p ∙ length_words s (8 * k) record_length in
      let is : v ≡ record_words (record_in (words_of s) k) = e ∙ ap record_words (q ∙ ap (λ (x : List ℤ). record_in x 0) p ∙ record_is) in
      ap (λ (n : ℕ). same_entries n w v) long
      ∙ all_same record_length (λ j. eq_z (get_or w j (pos 0)) (get_or v j (pos 0))) (λ j. eq_z (get_or (words_of s) (k + j) (pos 0)) (get_or (record_words (record_in (words_of s) k)) j (pos 0)))
      (λ j l. ap₂ eq_z (ap (λ (x : List ℤ). get_or x j (pos 0)) p ∙ record_word j l) (ap (λ (x : List ℤ). get_or x j (pos 0)) is))

-- ════ a station's four words
module _ (s : List ℕ) (k : ℕ) (h : k < 32) where
  station_list_lem : (list part : List ℤ) (n : ℕ) → list ≡ take 128 (drop stations_start (words_of s)) → part ≡ take n (drop (k * 4) list) → n ≡ 4 → (j : ℕ) → j < 4
      → get_or part j (pos 0) ≡ get_or (words_of s) (stations_start + k * 4 + j) (pos 0)
  station_list_lem list part n p q e j l =
      let small : j < n = omega arith in
      let here : stations_start + (k * 4 + j) ≡ stations_start + k * 4 + j = omega arith in
      ap (λ (x : List ℤ). get_or x j (pos 0)) q
      ∙ get_or-take n (drop (k * 4) list) j (pos 0) small
      ∙ get_or-drop (k * 4) list j (pos 0)
      ∙ ap (λ (x : List ℤ). get_or x (k * 4 + j) (pos 0)) p
      ∙ get_or-take 128 (drop stations_start (words_of s)) (k * 4 + j) (pos 0) (omega arith)
      ∙ get_or-drop stations_start (words_of s) (k * 4 + j) (pos 0)
      ∙ ap (λ (i : ℕ). get_or (words_of s) i (pos 0)) here

  pub station-is : (net : Network) (list part v : List ℤ) (n : ℕ) → net ≡ (book_of s).network → list ≡ take 128 (drop stations_start (words_of s)) → part ≡ take n (drop (k * 4) list) → n ≡ 4 → length part ≡ 4
      → v ≡ cond (ltb k net.count) (station_words (station_at net.stations k)) (pos 0 ∷ pos 0 ∷ pos 0 ∷ pos 0 ∷ []) → same_entries (length part) part v ≡ station_laid (words_of s) k
  unfolding station_laid station_part book_in
  station-is net list part v n w p q e long r =
      let is : v ≡ station_part (network_in (words_of s)) k =
      r ∙ ap (λ (x : Network). cond (ltb k x.count) (station_words (station_at x.stations k)) (pos 0 ∷ pos 0 ∷ pos 0 ∷ pos 0 ∷ [])) w in
      ap (λ (m : ℕ). same_entries m part v) long
      ∙ all_same 4 (λ j. eq_z (get_or part j (pos 0)) (get_or v j (pos 0))) (λ j. eq_z (get_or (words_of s) (stations_start + k * 4 + j) (pos 0)) (get_or (station_part (network_in (words_of s)) k) j (pos 0)))
      (λ j l. ap₂ eq_z (station_list_lem list part n p q e j l) (ap (λ (x : List ℤ). get_or x j (pos 0)) is))

-- ════ parts of m words written one behind the other, from byte `at` on
pub parts_none : (s : List ℕ) (at : ℕ) (f : ℕ → List ℤ) → s ≡ put_words s at (concat_below 0 f)
unfolding concat_below put_words
parts_none s at f = refl

pub parts_more : (s₀ s t : List ℕ) (at m k here : ℕ) (f : ℕ → List ℤ) → ((i : ℕ) → length (f i) ≡ m) → here ≡ at + 8 * (k * m) → s ≡ put_words s₀ at (concat_below k f) → t ≡ put_words s here (f k)
    → t ≡ put_words s₀ at (concat_below (k + 1) f)
parts_more s₀ s t at m k here f even e p q =
    q
    ∙ ap (λ (x : List ℕ). put_words x here (f k)) p
    ∙ ap (λ (i : ℕ). put_words (put_words s₀ at (concat_below k f)) i (f k)) (e ∙ ap (λ (n : ℕ). at + 8 * n) (sym (length-concat_below m f even k)))
    ∙ sym (run_append s₀ at (concat_below k f) (f k))
    ∙ ap (put_words s₀ at) (sym (concat_below-more k f) ∙ ap (λ (n : ℕ). concat_below n f) (sym (add-one k)))
