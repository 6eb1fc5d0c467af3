-- The layout test, part by part: words are those that writing the book read from them gives exactly where the first is the layout's number and the words of each
-- station and record are. Counters, N and u are read and written as they stand. Assumes nothing.
use Prim.Native.Nat.{ℕ, suc, ◌+◌, ◌-◌, ◌*◌, ◌/◌, ◌%◌, ◌<◌}
use Rattle.std.specs.Prelude.{◌≡◌, Bool, ◌&&◌, List, length, drop, ℤ, pos}
use Rattle.std.proofs.Math.Path.{sym, ap, subst}
use Rattle.std.proofs.Common.{◌∙◌, length-drop, SFits}
use Rattle.std.proofs.Math.Bool.{true}
use Rattle.std.proofs.Math.Decide.{dec_lt}
use native.Mathlib.Omega.{arith}
use Rattle.std.proofs.Math.ListN.{get_or}
use Rattle.std.proofs.Math.Seq.{length-take-le, get_or-take, get_or-drop}
use Rattle.std.specs.Int.{w64}
use Rattle.integers.specs.Tables.{length-tabulate, get_d_tabulate}
use Rattle.words.specs.Bools.{same_test, and_left, and_right, and_both}
use Rattle.words.specs.Signed.{signed, unsigned, eq_z}
use Rattle.words.specs.SignedLaws.{eq_z_true, eq-eq_z, signed-unsigned}
use Rattle.lists.specs.All.{all_below, all_at, all_by}
use Rattle.network.specs.Places.{length_places}
use Rattle.network.specs.RecordWords.{record_in, record_words, record_length}
use Rattle.network.specs.declared.Record.{Record}
use Rattle.lists.specs.Same.{same_entries}
use Rattle.book.specs.declared.Reversal.{Reversal}
use Rattle.book.specs.Journal.{journal_size, free}
use Rattle.book.specs.Sound.{Sized}
use Rattle.layout.specs.Layout.{station_part, reversal_words, layout_number, book_words, reversal_in, network_in, places_at, book_in, reversal_length, places_start, counts_start, entries_start, matrix_start, right_start, book_length, stations_start}
use Rattle.layout.specs.BookWords.{record_in_lem, head_word, count_word, station-word, place_word, next_word, journal_count_word, slot_word, matrix_word, right_word}

-- the words from index k on are those of the record that they give
unfoldable pub record_laid : List ℤ → ℕ → Bool
record_laid w k = all_below record_length (λ j. eq_z (get_or w (k + j) (pos 0)) (get_or (record_words (record_in w k)) j (pos 0)))

-- the four words of station s are its own, or 0 beyond the count
unfoldable pub station_laid : List ℤ → ℕ → Bool
station_laid w s = all_below 4 (λ j. eq_z (get_or w (stations_start + s * 4 + j) (pos 0)) (get_or (station_part (network_in w) s) j (pos 0)))

unfoldable pub parts_laid : List ℤ → Bool
parts_laid w =
    eq_z (get_or w 0 (pos 0)) layout_number
    && all_below 32 (station_laid w)
    && all_below 256 (λ p. record_laid w (places_start + p * record_length))
    && all_below journal_size (λ k. record_laid w (entries_start + 1 + k * reversal_length))

-- ════ the book that words give
module _ (w : List ℤ) (long : length w ≡ book_length) where
  length_left : (n : ℕ) → length (drop n w) ≡ book_length - n
  length_left n = length-drop n w ∙ ap (λ (m : ℕ). m - n) long

  pub sized_in : Sized (book_in w)
  unfolding book_in
  sized_in =
      record {
        places = length_places (places_at w);
        entries = length-tabulate journal_size _;
        matrix = length-take-le 2304 (drop matrix_start w) (omega (arith, length_left matrix_start));
        right = length-take-le 48 (drop right_start w) (omega (arith, length_left right_start));
      }

  pub reversal_in_lem : (k : ℕ) → k < journal_size → get_or (book_in w).journal.entries k free ≡ reversal_in w (entries_start + k * reversal_length)
  unfolding book_in
  reversal_in_lem k h = get_d_tabulate journal_size (λ i. reversal_in w (entries_start + i * reversal_length)) k free h

  -- ════ its words
  module _ (fits : (i : ℕ) → SFits w64 (get_or w i (pos 0))) where
    abbrev new : ℕ → ℤ
    new k = get_or (book_words (book_in w)) k (pos 0)

    kept : (k : ℕ) → signed (unsigned (get_or w k (pos 0))) ≡ get_or w k (pos 0)
    kept k = signed-unsigned (get_or w k (pos 0)) (fits k)

    count_kept : get_or w 1 (pos 0) ≡ new 1
    unfolding book_in
    count_kept = sym (count_word (book_in w) sized_in ∙ kept 1)

    next-kept : get_or w counts_start (pos 0) ≡ new counts_start
    unfolding book_in
    next-kept = sym (next_word (book_in w) sized_in ∙ kept counts_start)

    journal_count_kept : get_or w (counts_start + 1) (pos 0) ≡ new (counts_start + 1)
    unfolding book_in
    journal_count_kept = sym (journal_count_word (book_in w) sized_in ∙ kept (counts_start + 1))

    station_new : (s j : ℕ) → s < 32 → j < 4 → new (stations_start + s * 4 + j) ≡ get_or (station_part (network_in w) s) j (pos 0)
    unfolding book_in
    station_new s j h l = station-word (book_in w) sized_in s j h l

    place_new : (p j : ℕ) → p < 256 → j < record_length → new (places_start + p * record_length + j) ≡ get_or (record_words (record_in w (places_start + p * record_length))) j (pos 0)
    place_new p j h l = place_word (book_in w) sized_in p j h l ∙ ap (λ (r : Record). get_or (record_words r) j (pos 0)) (record_in_lem w p h)

    slot_first : (k : ℕ) → k < journal_size → get_or w (entries_start + k * reversal_length + 0) (pos 0) ≡ new (entries_start + k * reversal_length + 0)
    unfolding reversal_words
    slot_first k h =
        let here : entries_start + k * reversal_length + 0 ≡ entries_start + k * reversal_length = omega arith in
        sym (slot_word (book_in w) sized_in k 0 h (omega arith) ∙ ap (λ (u : Reversal). get_or (reversal_words u) 0 (pos 0)) (reversal_in_lem k h) ∙ kept (entries_start + k * reversal_length) ∙ ap (λ (i : ℕ). get_or w i (pos 0)) (sym here))

    slot_new : (k j : ℕ) → k < journal_size → j < record_length → new (entries_start + 1 + k * reversal_length + j) ≡ get_or (record_words (record_in w (entries_start + 1 + k * reversal_length))) j (pos 0)
    unfolding reversal_words
    slot_new k j h l =
        let here : entries_start + 1 + k * reversal_length + j ≡ entries_start + k * reversal_length + suc j = omega arith in
        let at : entries_start + k * reversal_length + 1 ≡ entries_start + 1 + k * reversal_length = omega arith in
        ap new here
        ∙ slot_word (book_in w) sized_in k (suc j) h (omega arith)
        ∙ ap (λ (u : Reversal). get_or (reversal_words u) (suc j) (pos 0)) (reversal_in_lem k h)
        ∙ ap (λ (i : ℕ). get_or (record_words (record_in w i)) j (pos 0)) at

    matrix_kept : (k : ℕ) → k < 2304 → get_or w (matrix_start + k) (pos 0) ≡ new (matrix_start + k)
    unfolding book_in
    matrix_kept k h = sym (matrix_word (book_in w) sized_in k h ∙ get_or-take 2304 (drop matrix_start w) k (pos 0) h ∙ get_or-drop matrix_start w k (pos 0))

    right_kept : (k : ℕ) → k < 48 → get_or w (right_start + k) (pos 0) ≡ new (right_start + k)
    unfolding book_in
    right_kept k h = sym (right_word (book_in w) sized_in k ∙ get_or-take 48 (drop right_start w) k (pos 0) h ∙ get_or-drop right_start w k (pos 0))

    -- ════ both ways
    abbrev Same : Bool
    Same = same_entries book_length w (book_words (book_in w))

    forth : Same ≡ true → parts_laid w ≡ true
    unfolding parts_laid station_laid record_laid
    forth e =
        let at : (k : ℕ) → k < book_length → get_or w k (pos 0) ≡ new k = λ k h. eq_z_true _ _ (all_at book_length (λ i. eq_z (get_or w i (pos 0)) (new i)) k e h) in
        and_both _ _
        (and_both _ _
        (and_both _ _
        (eq-eq_z _ _ (at 0 (omega arith) ∙ head_word (book_in w) sized_in))
        (all_by 32 _ (λ s h. all_by 4 _ (λ j l. eq-eq_z _ _ (at (stations_start + s * 4 + j) (omega arith) ∙ station_new s j h l)))))
        (all_by 256 _ (λ p h. all_by record_length _ (λ j l. eq-eq_z _ _ (at (places_start + p * record_length + j) (omega arith) ∙ place_new p j h l)))))
        (all_by journal_size _ (λ k h. all_by record_length _ (λ j l. eq-eq_z _ _ (at (entries_start + 1 + k * reversal_length + j) (omega arith) ∙ slot_new k j h l))))

    back : parts_laid w ≡ true → Same ≡ true
    unfolding parts_laid station_laid record_laid
    back e =
        let stations = all_below 32 (station_laid w) in
        let places = all_below 256 (λ p. record_laid w (places_start + p * record_length)) in
        let entries = all_below journal_size (λ k. record_laid w (entries_start + 1 + k * reversal_length)) in
        let first = eq_z (get_or w 0 (pos 0)) layout_number in
        let three : first && stations && places ≡ true = and_left (first && stations && places) entries e in
        let two : first && stations ≡ true = and_left (first && stations) places three in
        let station : (s j : ℕ) → s < 32 → j < 4 → get_or w (stations_start + s * 4 + j) (pos 0) ≡ new (stations_start + s * 4 + j) =
        λ s j h l. eq_z_true _ _ (all_at 4 _ j (all_at 32 _ s (and_right first stations two) h) l) ∙ sym (station_new s j h l) in
        let place : (p j : ℕ) → p < 256 → j < record_length → get_or w (places_start + p * record_length + j) (pos 0) ≡ new (places_start + p * record_length + j) =
        λ p j h l. eq_z_true _ _ (all_at record_length _ j (all_at 256 _ p (and_right (first && stations) places three) h) l) ∙ sym (place_new p j h l) in
        let slot : (k j : ℕ) → k < journal_size → j < record_length → get_or w (entries_start + 1 + k * reversal_length + j) (pos 0) ≡ new (entries_start + 1 + k * reversal_length + j) =
        λ k j h l. eq_z_true _ _ (all_at record_length _ j (all_at journal_size _ k (and_right (first && stations && places) entries e) h) l) ∙ sym (slot_new k j h l) in
        let head : get_or w 0 (pos 0) ≡ new 0 = eq_z_true _ _ (and_left first stations two) ∙ sym (head_word (book_in w) sized_in) in
        all_by book_length (λ k. eq_z (get_or w k (pos 0)) (new k)) (λ k h. eq-eq_z _ _ (word k h head station place slot))
      where
        word : (k : ℕ) → k < book_length → get_or w 0 (pos 0) ≡ new 0 → ((s j : ℕ) → s < 32 → j < 4 → get_or w (stations_start + s * 4 + j) (pos 0) ≡ new (stations_start + s * 4 + j))
            → ((p j : ℕ) → p < 256 → j < record_length → get_or w (places_start + p * record_length + j) (pos 0) ≡ new (places_start + p * record_length + j))
            → ((i j : ℕ) → i < journal_size → j < record_length → get_or w (entries_start + 1 + i * reversal_length + j) (pos 0) ≡ new (entries_start + 1 + i * reversal_length + j)) → get_or w k (pos 0) ≡ new k
        word k h head station place slot = go (dec_lt k 1) (dec_lt k stations_start) (dec_lt k places_start) (dec_lt k counts_start) (dec_lt k (counts_start + 1)) (dec_lt k entries_start) (dec_lt k matrix_start) (dec_lt k right_start)
          where
            moved : (i : ℕ) → i ≡ k → get_or w i (pos 0) ≡ new i → get_or w k (pos 0) ≡ new k
            moved i e q = subst (λ (m : ℕ). get_or w m (pos 0) ≡ new m) e q

            in_slot : (i j : ℕ) → entries_start + i * reversal_length + j ≡ k → i < journal_size → j < reversal_length → Dec (j < 1) → get_or w k (pos 0) ≡ new k
            in_slot i j e a b (yes z) = moved (entries_start + i * reversal_length + 0) (omega arith) (slot_first i a)
            in_slot i j e a b (no z) = moved (entries_start + 1 + i * reversal_length + (j - 1)) (omega arith) (slot i (j - 1) a (omega arith))

            go : Dec (k < 1) → Dec (k < stations_start) → Dec (k < places_start) → Dec (k < counts_start) → Dec (k < counts_start + 1) → Dec (k < entries_start) → Dec (k < matrix_start) → Dec (k < right_start) → get_or w k (pos 0) ≡ new k
            go (yes a) b c d e f g i = moved 0 (omega arith) head
            go (no a) (yes b) c d e f g i = moved 1 (omega arith) count_kept
            go (no a) (no b) (yes c) d e f g i = moved (stations_start + (k - stations_start) / 4 * 4 + (k - stations_start) % 4) (omega arith) (station ((k - stations_start) / 4) ((k - stations_start) % 4) (omega arith) (omega arith))
            go (no a) (no b) (no c) (yes d) e f g i = moved (places_start + (k - places_start) / record_length * record_length + (k - places_start) % record_length) (omega arith) (place ((k - places_start) / record_length) ((k - places_start) % record_length) (omega arith) (omega arith))
            go (no a) (no b) (no c) (no d) (yes e) f g i = moved counts_start (omega arith) next-kept
            go (no a) (no b) (no c) (no d) (no e) (yes f) g i = moved (counts_start + 1) (omega arith) journal_count_kept
            go (no a) (no b) (no c) (no d) (no e) (no f) (yes g) i =
                in_slot ((k - entries_start) / reversal_length) ((k - entries_start) % reversal_length) (omega arith) (omega arith) (omega arith) (dec_lt ((k - entries_start) % reversal_length) 1)
            go (no a) (no b) (no c) (no d) (no e) (no f) (no g) (yes i) = moved (matrix_start + (k - matrix_start)) (omega arith) (matrix_kept (k - matrix_start) (omega arith))
            go (no a) (no b) (no c) (no d) (no e) (no f) (no g) (no i) = moved (right_start + (k - right_start)) (omega arith) (right_kept (k - right_start) (omega arith))

    pub laid_parts : same_entries book_length w (book_words (book_in w)) ≡ parts_laid w
    laid_parts = same_test Same (parts_laid w) forth back
