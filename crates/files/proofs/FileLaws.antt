-- Laws of files. Walking back is the same as every entry being linked (`reads_linked`). What is written reads and gives its entries back (`written-reads`,
-- `written-entries`), and a file that reads is the one that writing its entries gives (`read_written`): so to read is to be the file of some entries (`reads_some`). Assumes nothing.
use Rattle.files.specs.Statements.{AllFit, AllLong, Whole}
use Rattle.std.specs.Prelude.{◌≡◌, ℕ, zero, suc, ◌+◌, ◌-◌, ◌*◌, ◌/◌, ◌%◌, ◌^◌, ◌<◌, ◌≤◌, true, false, cond, ◌&&◌, ◌⊎◌, ◌↔◌, List, [], ◌∷◌, ◌++◌, length, take, drop, ℤ, pos, negsuc, FitsSigned, ◌==◌, ◌≢◌, nat_le, slice_index_or, refl}
use Rattle.std.proofs.Math.Path.{sym, ap}
use Rattle.std.proofs.Common.{◌∙◌, subst, inl, inr, append-nil, append_assoc, eqb-true, eq-eqb, ne_eqb, leb-true, le-leb, lt-ltb, le-ltb, length-append, take_at, drop_at}
use native.Mathlib.Omega.{arith}
use Rattle.std.proofs.Math.Decide.{dec_lt, ℕ_discrete}
use Rattle.std.specs.Int.{w64}
use Rattle.words.specs.Bools.{clash, true_or_false, same_test, and_left, and_right, and_both}
use Rattle.words.specs.Signed.{eq_z, signed}
use Rattle.words.specs.SignedLaws.{eq_z_true, eq-eq_z}
use Rattle.words.specs.Words.{Bytes, word_at}
use Rattle.words.specs.Runs.{words_at, put_words}
use Rattle.words.specs.RunLaws.{length_words, words_at_lem, words_fit}
use Rattle.files.specs.Bytes.{bytes_of}
use Rattle.files.specs.BytesLaws.{length_bytes, run_bytes, words_of_bytes, bytes_of_words, words_append, words_take, put_append}
use Rattle.files.specs.Entries.{right_words, EntryFits, previous_trailer, entry_words, right_entry, linked_entry}
use Rattle.files.specs.EntryLaws.{length_entry, first-thirteen, linked_entry_lem, linked_is, linked_right, right_thirteen, all_three, all_four, entry_fits, fits-append, fits-none}
use Rattle.files.specs.Files.{file_words, file_of, right_at, walks_back, reads, entries_from, entries_of, linked_at, linked_to}

-- ════ an entry's test, part by part
abbrev Linked : List ℕ → ℕ → Type 0
Linked f at = (right_at f at ≡ true) × (word_at f (at + 104) ≡ signed at) × (word_at f (at + 112) ≡ previous_trailer at)

linked_parts : (f : List ℕ) (at : ℕ) → linked_at f at ≡ true → Linked f at
unfolding linked_at linked_entry right_at
linked_parts f at e =
    let w = words_at f at 16 in
    let p : (right_entry w ≡ true) × (eq_z (slice_index_or w 13 (pos 0)) (signed at) ≡ true) × (eq_z (slice_index_or w 14 (pos 0)) (previous_trailer at) ≡ true) = all_three _ _ _ e in
    (p.0, sym (words_at_lem f at 16 13 (omega arith)) ∙ eq_z_true _ _ p.1, sym (words_at_lem f at 16 14 (omega arith)) ∙ eq_z_true _ _ p.2)

parts_linked : (f : List ℕ) (at : ℕ) → Linked f at → linked_at f at ≡ true
unfolding linked_at linked_entry right_at
parts_linked f at g =
    and_both _ _ (and_both _ _ g.0 (eq-eq_z _ _ (words_at_lem f at 16 13 (omega arith) ∙ g.1))) (eq-eq_z _ _ (words_at_lem f at 16 14 (omega arith) ∙ g.2))

-- ════ every entry is linked
pub linked_each : (f : List ℕ) (n i : ℕ) → linked_to f n ≡ true → i < n → linked_at f (128 * i) ≡ true
unfolding linked_to
linked_each f zero i e h = absurd (omega arith)
linked_each f (suc n) i e h = go (linked_each f n i (and_left _ _ e)) (ℕ_discrete i n)
  where
    go : (i < n → linked_at f (128 * i) ≡ true) → Dec (i ≡ n) → linked_at f (128 * i) ≡ true
    go below (yes q) = rw q (and_right (linked_to f n) (linked_at f (128 * n)) e)
    go below (no q) = below (omega arith)

pub each_linked : (f : List ℕ) (n : ℕ) → ((i : ℕ) → i < n → linked_at f (128 * i) ≡ true) → linked_to f n ≡ true
unfolding linked_to
each_linked f zero h = refl
each_linked f (suc n) h = and_both _ _ (each_linked f n (λ i l. h i (omega arith))) (h n (omega arith))

-- ════ walking back
-- what a walk found: n more entries before the last, end to end
record Walked (f : List ℕ) (e : ℕ) : Type 0 where
  entries : ℕ
  ends : e ≡ 128 * suc entries
  linked : linked_to f (suc entries) ≡ true

pub previous_at : (at : ℕ) → 0 < at → previous_trailer at ≡ signed (at - 24)
unfolding previous_trailer
previous_at zero h = absurd (omega arith)
previous_at (suc n) h = refl

-- an entry more at the end
walked_more : (f : List ℕ) (e n : ℕ) → e ≡ 128 * suc n → linked_to f n ≡ true → right_at f (e - 128) ≡ true → word_at f (e - 24) ≡ signed (e - 128)
    → word_at f (e - 16) ≡ previous_trailer (e - 128) → Walked f e
unfolding linked_to
walked_more f e n q g s own back =
    let at : e - 128 ≡ 128 * n = omega arith in
    let own_at : 128 * n + 104 ≡ e - 24 = omega arith in
    let back_at : 128 * n + 112 ≡ e - 16 = omega arith in
    let last : linked_at f (128 * n) ≡ true =
    parts_linked f (128 * n) (rw at at s, ap (word_at f) own_at ∙ own ∙ ap signed at, ap (word_at f) back_at ∙ back ∙ ap previous_trailer at) in
    record { entries = n; ends = q; linked = and_both _ _ g last }

walk_linked : (f : List ℕ) (k e : ℕ) → walks_back f k e ≡ true → Walked f e
unfolding walks_back linked_to previous_trailer
walk_linked f zero e w = clash w refl
walk_linked f (suc k) e w =
    let rest = cond (eq_z (word_at f (e - 16)) (negsuc 0)) (e - 128 == 0) (eq_z (word_at f (e - 16)) (signed (e - 128 - 24)) && walks_back f k (e - 128)) in
    let p = all_four (nat_le 128 e) (right_at f (e - 128)) (eq_z (word_at f (e - 24)) (signed (e - 128))) rest w in
    go (walk_linked f k (e - 128)) (leb-true 128 e p.0) p.1 (eq_z_true _ _ p.2) p.3 (true_or_false (eq_z (word_at f (e - 16)) (negsuc 0)))
  where
    before : Walked f (e - 128) → 128 ≤ e → right_at f (e - 128) ≡ true → word_at f (e - 24) ≡ signed (e - 128) → word_at f (e - 16) ≡ signed (e - 128 - 24) → Walked f e
    before v long s own back =
        walked_more f e (suc v.entries) (omega (arith, v.ends)) v.linked s own (back ∙ sym (previous_at (e - 128) (omega (arith, v.ends))))

    go : (walks_back f k (e - 128) ≡ true → Walked f (e - 128)) → 128 ≤ e → right_at f (e - 128) ≡ true → word_at f (e - 24) ≡ signed (e - 128)
        → cond (eq_z (word_at f (e - 16)) (negsuc 0)) (e - 128 == 0) (eq_z (word_at f (e - 16)) (signed (e - 128 - 24)) && walks_back f k (e - 128)) ≡ true
        → (eq_z (word_at f (e - 16)) (negsuc 0) ≡ true) ⊎ (eq_z (word_at f (e - 16)) (negsuc 0) ≡ false) → Walked f e
    go more long s own w (inl first) =
        let z : e - 128 ≡ 0 = eqb-true _ _ (rw first at w) in
        walked_more f e 0 (omega arith) refl s own (eq_z_true _ _ first ∙ ap previous_trailer (sym z))
    go more long s own w (inr later) =
        let v : eq_z (word_at f (e - 16)) (signed (e - 128 - 24)) && walks_back f k (e - 128) ≡ true = rw later at w in
        before (more (and_right (eq_z (word_at f (e - 16)) (signed (e - 128 - 24))) _ v)) long s own (eq_z_true _ _ (and_left (eq_z (word_at f (e - 16)) (signed (e - 128 - 24))) (walks_back f k (e - 128)) v))

-- −1 is no trailer's start
not_first : (n : ℕ) → n < 2 ^ 64 - 1 → eq_z (signed n) (negsuc 0) ≡ false
not_first n h = by (dec_lt n (2 ^ 63))
  where
    low : 2 ^ 63 ≤ n → 2 ^ 64 - suc n ≢ 0
    low l e = omega arith

    by : Dec (n < 2 ^ 63) → eq_z (signed n) (negsuc 0) ≡ false
    by (yes l) = rw (lt-ltb n (2 ^ 63) l)
    by (no l) = rw (le-ltb n (2 ^ 63) (omega arith)) (ne_eqb _ _ (low (omega arith)))

-- a walk from a linked entry on, where what its trailer leads back to is right
walk_one : (f : List ℕ) (k at : ℕ) → Linked f at
    → cond (eq_z (previous_trailer at) (negsuc 0)) (at == 0) (eq_z (previous_trailer at) (signed (at - 24)) && walks_back f k at) ≡ true → walks_back f (suc k) (at + 128) ≡ true
unfolding walks_back
walk_one f k at g rest =
    let start : at + 128 - 128 ≡ at = omega arith in
    let own : at + 128 - 24 ≡ at + 104 = omega arith in
    let back : at + 128 - 16 ≡ at + 112 = omega arith in
    rw (start, own, back, g.1, g.2) (and_both _ _ (and_both _ _ (and_both _ _ (le-leb 128 (at + 128) (omega arith)) g.0) (eq-eq_z (signed at) (signed at) refl)) rest)

linked_walk : (f : List ℕ) (k n : ℕ) → n < k → 128 * n < 2 ^ 64 → linked_to f (suc n) ≡ true → walks_back f k (128 * n + 128) ≡ true
unfolding linked_to previous_trailer
linked_walk f zero n h b g = absurd (omega arith)
linked_walk f (suc k) zero h b g = walk_one f k 0 (linked_parts f 0 (and_right (linked_to f 0) (linked_at f (128 * 0)) g)) (first f k)
  where
    first : (f : List ℕ) (k : ℕ) → cond (eq_z (previous_trailer 0) (negsuc 0)) (0 == 0) (eq_z (previous_trailer 0) (signed (0 - 24)) && walks_back f k 0) ≡ true
    first f k = refl
linked_walk f (suc k) (suc m) h b g =
    let at = 128 * suc m in
    let same : 128 * m + 128 ≡ at = omega arith in
    let before : walks_back f k at ≡ true = rw same at (linked_walk f k m (omega arith) (omega arith) (and_left (linked_to f (suc m)) (linked_at f at) g)) in
    walk_one f k at (linked_parts f at (and_right (linked_to f (suc m)) (linked_at f at) g))
    (rw (previous_at at (omega arith), not_first (at - 24) (omega arith)) (and_both (eq_z (signed (at - 24)) (signed (at - 24))) (walks_back f k at) (eq-eq_z (signed (at - 24)) (signed (at - 24)) refl) before))

-- ════ reading is every entry being linked
read_linked : (f : List ℕ) → reads f ≡ true → (length f % 128 == 0) && linked_to f (length f / 128) ≡ true
unfolding reads linked_to
read_linked f e = by (ℕ_discrete (length f) 0)
  where
    by : Dec (length f ≡ 0) → (length f % 128 == 0) && linked_to f (length f / 128) ≡ true
    by (yes z) = rw z
    by (no z) =
        let w : walks_back f (length f) (length f) ≡ true = rw (ne_eqb (length f) 0 z) at e in
        let v = walk_linked f (length f) (length f) w in
        let n : length f / 128 ≡ suc v.entries = omega (arith, v.ends) in
        rw n (and_both (length f % 128 == 0) (linked_to f (suc v.entries)) (eq-eqb (length f % 128) 0 (omega (arith, v.ends))) v.linked)

linked_read : (f : List ℕ) → length f < 2 ^ 64 → (length f % 128 == 0) && linked_to f (length f / 128) ≡ true → reads f ≡ true
unfolding reads
linked_read f b e = by (ℕ_discrete (length f) 0)
  where
    by : Dec (length f ≡ 0) → reads f ≡ true
    by (yes z) = rw z
    by (no z) =
        let m : length f % 128 ≡ 0 = eqb-true _ _ (and_left (length f % 128 == 0) _ e) in
        let n : length f / 128 ≡ suc (length f / 128 - 1) = omega arith in
        let q : 128 * (length f / 128 - 1) + 128 ≡ length f = omega arith in
        let g : linked_to f (suc (length f / 128 - 1)) ≡ true = rw n at (and_right (length f % 128 == 0) (linked_to f (length f / 128)) e) in
        rw (ne_eqb (length f) 0 z) (rw q at (linked_walk f (length f) (length f / 128 - 1) (omega arith) (omega arith) g))

pub reads_linked : (f : List ℕ) → length f < 2 ^ 64 → reads f ≡ (length f % 128 == 0) && linked_to f (length f / 128)
reads_linked f b = same_test _ _ (read_linked f) (linked_read f b)

pub reads_whole : (f : List ℕ) → reads f ≡ true → Whole f
reads_whole f e =
    let g = read_linked f e in
    let m : length f % 128 ≡ 0 = eqb-true _ _ (and_left (length f % 128 == 0) (linked_to f (length f / 128)) g) in
    record { whole = omega arith; linked = λ i h. linked_each f (length f / 128) i (and_right (length f % 128 == 0) (linked_to f (length f / 128)) g) h }

-- ════ a file that reads is the one that writing its entries gives
linked_words : (f : List ℕ) (at : ℕ) → linked_at f at ≡ true → words_at f at 16 ≡ entry_words at (words_at f at 13)
unfolding linked_at
linked_words f at g = linked_is at (words_at f at 16) (length_words f at 16) g ∙ ap (entry_words at) (words_take f at 13 3)

-- linked entries from byte at on, counted from the second
pub linked_next : (f : List ℕ) (at n : ℕ) → ((i : ℕ) → i < suc n → linked_at f (at + 128 * i) ≡ true) → (i : ℕ) → i < n → linked_at f (at + 128 + 128 * i) ≡ true
linked_next f at n h i l = let q : at + 128 * suc i ≡ at + 128 + 128 * i = omega arith in rw q at (h (suc i) (omega arith))

words_read : (f : List ℕ) (at n : ℕ) → ((i : ℕ) → i < n → linked_at f (at + 128 * i) ≡ true) → file_words at (entries_from f at n) ≡ words_at f at (16 * n)
unfolding file_words entries_from words_at
words_read f at zero h = refl
words_read f at (suc n) h =
    let here : at + 128 * 0 ≡ at = omega arith in
    let first : linked_at f at ≡ true = rw here at (h 0 (omega arith)) in
    let more : 16 + 16 * n ≡ 16 * suc n = omega arith in
    cc (linked_words f at first, words_read f (at + 128) n (linked_next f at n h), words_append f at 16 (16 * n), more)

-- "a file that reads is the one that writing its entries in their order would give"
pub read_written : (f : List ℕ) → Bytes f → reads f ≡ true → file_of (entries_of f) ≡ f
unfolding file_of entries_of
read_written f b e =
    let w = reads_whole f e in
    let n = length f / 128 in
    ap bytes_of (words_read f 0 n (λ i h. let q : 128 * i ≡ 0 + 128 * i = omega arith in rw q at (w.linked i h)))
    ∙ bytes_of_words f (16 * n) b (omega (arith, w.whole))

-- ════ what is written
pub fit_long : (es : List (List ℤ)) → AllFit es → AllLong es
fit_long es f i h = (f i h).long

pub length-file_words : (start : ℕ) (es : List (List ℤ)) → AllLong es → length (file_words start es) ≡ 16 * length es
unfolding file_words
length-file_words start [] f = refl
length-file_words start (e ∷ es) f =
    length-append (entry_words start e) (file_words (start + 128) es)
    ∙ omega (arith, length_entry start e (f 0 (omega arith)), length-file_words (start + 128) es (λ i h. f (suc i) (omega arith)))

pub length_file : (es : List (List ℤ)) → AllLong es → length (file_of es) ≡ 128 * length es
unfolding file_of
length_file es f = length_bytes (file_words 0 es) ∙ omega (arith, length-file_words 0 es f)

words_of_file_fit : (start : ℕ) (es : List (List ℤ)) → AllFit es → (i : ℕ) → FitsSigned w64 (slice_index_or (file_words start es) i (pos 0))
unfolding file_words
words_of_file_fit start [] f = fits-none
words_of_file_fit start (e ∷ es) f =
    fits-append (entry_words start e) (file_words (start + 128) es) (entry_fits start e (f 0 (omega arith)).words)
    (words_of_file_fit (start + 128) es (λ i h. f (suc i) (omega arith)))

-- the words read are those written
words_of_file : (es : List (List ℤ)) → AllFit es → words_at (file_of es) 0 (16 * length es) ≡ file_words 0 es
unfolding file_of
words_of_file es f =
    ap (words_at (bytes_of (file_words 0 es)) 0) (sym (length-file_words 0 es (fit_long es f))) ∙ words_of_bytes (file_words 0 es) (words_of_file_fit 0 es f)

-- f holds the words of the entries es from byte at on: its first entry, and the rest
module _ (f : List ℕ) (at : ℕ) (e : List ℤ) (es : List (List ℤ)) (long : length e ≡ 13) (h : words_at f at (16 * length (e ∷ es)) ≡ file_words at (e ∷ es)) where
  split : words_at f at 16 ++ words_at f (at + 128) (16 * length es) ≡ entry_words at e ++ file_words (at + 128) es
  unfolding file_words
  split =
      let more : 16 + 16 * length es ≡ 16 * suc (length es) = omega arith in
      sym (words_append f at 16 (16 * length es)) ∙ ap (words_at f at) more ∙ h

  holds-first : words_at f at 16 ≡ entry_words at e
  holds-first =
      sym (take_at (words_at f at 16) (words_at f (at + 128) (16 * length es)) 16 (length_words f at 16))
      ∙ ap (take 16) split
      ∙ take_at (entry_words at e) (file_words (at + 128) es) 16 (length_entry at e long)

  holds-rest : words_at f (at + 128) (16 * length es) ≡ file_words (at + 128) es
  holds-rest =
      sym (drop_at (words_at f at 16) (words_at f (at + 128) (16 * length es)) 16 (length_words f at 16))
      ∙ ap (drop 16) split
      ∙ drop_at (entry_words at e) (file_words (at + 128) es) 16 (length_entry at e long)

holds_linked : (f : List ℕ) (at : ℕ) (es : List (List ℤ)) → AllFit es → words_at f at (16 * length es) ≡ file_words at es → (i : ℕ) → i < length es → linked_at f (at + 128 * i) ≡ true
unfolding linked_at
holds_linked f at [] fit h i l = absurd (omega arith)
holds_linked f at (e ∷ es) fit h zero l =
    let x = fit 0 (omega arith) in
    let here : at + 128 * zero ≡ at = omega arith in
    rw (here, holds-first f at e es x.long h) (linked_entry_lem at e x.long x.right)
holds_linked f at (e ∷ es) fit h (suc i) l =
    let here : at + 128 + 128 * i ≡ at + 128 * suc i = omega arith in
    rw here at (holds_linked f (at + 128) es (λ k q. fit (suc k) (omega arith)) (holds-rest f at e es (fit 0 (omega arith)).long h) i (omega arith))

holds-entries : (f : List ℕ) (at : ℕ) (es : List (List ℤ)) → AllFit es → words_at f at (16 * length es) ≡ file_words at es → entries_from f at (length es) ≡ es
unfolding entries_from
holds-entries f at [] fit h = refl
holds-entries f at (e ∷ es) fit h =
    let x = fit 0 (omega arith) in
    let first : words_at f at 13 ≡ e = sym (words_take f at 13 3) ∙ ap (take 13) (holds-first f at e es x.long h) ∙ first-thirteen at e x.long in
    cc (first, holds-entries f (at + 128) es (λ k q. fit (suc k) (omega arith)) (holds-rest f at e es x.long h))

-- "Writing then reading gives the same entries"
pub written-reads : (es : List (List ℤ)) → AllFit es → 128 * length es < 2 ^ 64 → reads (file_of es) ≡ true
written-reads es fit b =
    let long = length_file es (fit_long es fit) in
    let n : length (file_of es) / 128 ≡ length es = omega arith in
    let each : (i : ℕ) → i < length (file_of es) / 128 → linked_at (file_of es) (128 * i) ≡ true =
    λ i h. let q : 0 + 128 * i ≡ 128 * i = omega arith in rw q at (holds_linked (file_of es) 0 es fit (words_of_file es fit) i (omega arith)) in
    linked_read (file_of es) (omega arith)
    (and_both (length (file_of es) % 128 == 0) (linked_to (file_of es) (length (file_of es) / 128))
    (eq-eqb (length (file_of es) % 128) 0 (omega arith)) (each_linked (file_of es) (length (file_of es) / 128) each))

pub written-entries : (es : List (List ℤ)) → AllFit es → entries_of (file_of es) ≡ es
unfolding entries_of
written-entries es fit =
    let long = length_file es (fit_long es fit) in
    let n : length (file_of es) / 128 ≡ length es = omega arith in
    ap (entries_from (file_of es) 0) n ∙ holds-entries (file_of es) 0 es fit (words_of_file es fit)

-- what is read fits
pub read_fits : (f : List ℕ) (at : ℕ) → Bytes f → right_at f at ≡ true → EntryFits (words_at f at 13)
unfolding right_at
read_fits f at b s =
    record {
      long = length_words f at 13;
      words = λ i. words_fit f at 13 i b;
      right = ap right_words (sym (words_take f at 13 3)) ∙ right_thirteen (words_at f at 16) s;
    }

-- ════ a file in lent bytes: at their start, and the rest stays
module _ (s : List ℕ) (es : List (List ℤ)) (fit : AllLong es) (room : 128 * length es ≤ length s) where
  pub put_file : put_words s 0 (file_words 0 es) ≡ file_of es ++ drop (128 * length es) s
  unfolding file_of
  put_file =
      let long = length-file_words 0 es fit in
      let n : 0 + 8 * length (file_words 0 es) ≡ 128 * length es = omega arith in
      run_bytes s 0 (file_words 0 es) (omega arith) ∙ ap (λ (k : ℕ). bytes_of (file_words 0 es) ++ drop k s) n

pub file_front : (es : List (List ℤ)) (rest : List ℕ) → AllLong es → take (128 * length es) (file_of es ++ rest) ≡ file_of es
file_front es rest fit = take_at (file_of es) rest (128 * length es) (length_file es fit)

-- a file written part by part: the next entries go after those written
pub file_append : (start : ℕ) (es fs : List (List ℤ)) → file_words start (es ++ fs) ≡ file_words start es ++ file_words (start + 128 * length es) fs
unfolding file_words
file_append start [] fs = let here : start ≡ start + 128 * 0 = omega arith in ap (λ (k : ℕ). file_words k fs) here
file_append start (x ∷ es) fs =
    let here : start + 128 + 128 * length es ≡ start + 128 * suc (length es) = omega arith in
    ap (λ (l : List ℤ). entry_words start x ++ l) (file_append (start + 128) es fs ∙ ap (λ (k : ℕ). file_words (start + 128) es ++ file_words k fs) here)
    ∙ sym (append_assoc (entry_words start x) (file_words (start + 128) es) (file_words (start + 128 * suc (length es)) fs))

pub write_append : (s : List ℕ) (es fs : List (List ℤ)) → AllLong es
    → put_words (put_words s 0 (file_words 0 es)) (128 * length es) (file_words (128 * length es) fs) ≡ put_words s 0 (file_words 0 (es ++ fs))
write_append s es fs fit =
    let n : 0 + 8 * length (file_words 0 es) ≡ 128 * length es = omega (arith, length-file_words 0 es fit) in
    let m : 0 + 128 * length es ≡ 128 * length es = omega arith in
    sym
    (ap (put_words s 0) (file_append 0 es fs ∙ ap (λ (k : ℕ). file_words 0 es ++ file_words k fs) m)
    ∙ put_append s 0 (file_words 0 es) (file_words (128 * length es) fs)
    ∙ ap (λ (k : ℕ). put_words (put_words s 0 (file_words 0 es)) k (file_words (128 * length es) fs)) n)

-- one entry as a file's part
pub file_one : (start : ℕ) (e : List ℤ) → file_words start (e ∷ []) ≡ entry_words start e
unfolding file_words
file_one start e = append-nil (entry_words start e)

-- ════ the entries of a file
length_from : (f : List ℕ) (at n : ℕ) → length (entries_from f at n) ≡ n
unfolding entries_from
length_from f at zero = refl
length_from f at (suc n) = ap suc (length_from f (at + 128) n)

pub length-entries : (f : List ℕ) → length (entries_of f) ≡ length f / 128
unfolding entries_of
length-entries f = length_from f 0 (length f / 128)

-- entry i starts at byte 128 i
entry_from : (f : List ℕ) (at n i : ℕ) → i < n → slice_index_or (entries_from f at n) i [] ≡ words_at f (at + 128 * i) 13
unfolding entries_from
entry_from f at zero i h = absurd (omega arith)
entry_from f at (suc n) zero h = let q : at ≡ at + 128 * 0 = omega arith in ap (λ (k : ℕ). words_at f k 13) q
entry_from f at (suc n) (suc i) h =
    let q : at + 128 + 128 * i ≡ at + 128 * suc i = omega arith in
    entry_from f (at + 128) n i (omega arith) ∙ ap (λ (k : ℕ). words_at f k 13) q

pub entry_at : (f : List ℕ) (i : ℕ) → i < length f / 128 → slice_index_or (entries_of f) i [] ≡ words_at f (128 * i) 13
unfolding entries_of
entry_at f i h = let q : 0 + 128 * i ≡ 128 * i = omega arith in entry_from f 0 (length f / 128) i h ∙ ap (λ (k : ℕ). words_at f k 13) q

-- one entry more
pub entries-more : (f : List ℕ) (at n : ℕ) → entries_from f at (suc n) ≡ entries_from f at n ++ (words_at f (at + 128 * n) 13 ∷ [])
unfolding entries_from
entries-more f at zero = let q : at ≡ at + 128 * 0 = omega arith in ap (λ (k : ℕ). words_at f k 13 ∷ []) q
entries-more f at (suc n) =
    let q : at + 128 + 128 * n ≡ at + 128 * suc n = omega arith in
    ap (λ (l : List (List ℤ)). words_at f at 13 ∷ l) (entries-more f (at + 128) n ∙ ap (λ (k : ℕ). entries_from f (at + 128) n ++ (words_at f k 13 ∷ [])) q)

-- ════ to read is to be the file of some entries
pub entries_fit_lem : (f : List ℕ) → Bytes f → reads f ≡ true → AllFit (entries_of f)
unfolding linked_at right_at
entries_fit_lem f b e i h =
    let n = length-entries f in
    let inside : i < length f / 128 = omega arith in
    let right : right_entry (words_at f (128 * i) 16) ≡ true = linked_right (128 * i) (words_at f (128 * i) 16) (length_words f (128 * i) 16) ((reads_whole f e).linked i inside) in
    subst EntryFits (sym (entry_at f i inside)) (read_fits f (128 * i) b right)

pub reads_some : (f : List ℕ) → Bytes f → length f < 2 ^ 64 → (reads f ≡ true) ↔ ((es : List (List ℤ)) × AllFit es × (f ≡ file_of es))
reads_some f b l = (λ e. (entries_of f, entries_fit_lem f b e, sym (read_written f b e)), λ x. written x)
  where
    written : ((es : List (List ℤ)) × AllFit es × (f ≡ file_of es)) → reads f ≡ true
    written (es, fit, e) = let n : length f ≡ 128 * length es = ap length e ∙ length_file es (fit_long es fit) in ap reads e ∙ written-reads es fit (omega arith)
