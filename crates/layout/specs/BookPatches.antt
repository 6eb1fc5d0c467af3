-- One part of a book written in place, in bytes that hold the book: what comes of it is the book with that part changed. Assumes nothing.
use Prim.Native.Nat.{ℕ, zero, suc, ◌+◌, ◌-◌, ◌*◌, ◌<◌, ◌≤◌}
use Rattle.std.specs.Prelude.{◌≡◌, refl, get_or, set}
use Rattle.std.proofs.Math.Path.{sym, ap, ap₂}
use Rattle.std.proofs.Common.{◌∙◌, length-set, get_or-set_same, get_or-set_other}
use mathlib.Core.List.{List, [], ◌∷◌, ◌++◌, append_assoc, append-nil}
use native.Mathlib.Omega.{arith}
use Rattle.std.proofs.Math.ListN.{length, length-append}
use Rattle.std.proofs.Math.IntN.{ℤ}
use Rattle.words.specs.Signed.{signed}
use Rattle.words.specs.Runs.{put_words}
use Rattle.network.specs.Records.{vacant, record_at}
use Rattle.network.specs.declared.Place.{Place}
use Rattle.network.specs.declared.Record.{Record}
use Rattle.book.specs.declared.Reversal.{Reversal}
use Rattle.book.specs.declared.Book.{Book}
use Rattle.book.specs.Journal.{journal_size, free}
use Rattle.book.specs.Sound.{Sized}
use Rattle.words.specs.Concat.{concat_below, length-concat_below, concat_below-ext}
use Rattle.network.specs.RecordWords.{record_words, record_length}
use Rattle.layout.specs.Layout.{reversal_words, counts_part, entries_part, reversal_length, places_start, counts_start, entries_start, book_bytes}
use Rattle.network.specs.RecordWordLaws.{length_record}
use Rattle.layout.specs.BookWords.{length_reversal, tail, to_stations, to_places, to_counts, to_entries, length-to_stations, length-to_places, length-to_counts, length-to_entries, at_places, at-counts, at-entries, at_matrix, length_book}
use Rattle.layout.specs.Bytes.{put_book}
use Rattle.layout.specs.RunPatches.{patch}

-- ════ one of n equal parts
-- f 0 .. f (i − 1), f i, and what is left
concat_below-cut : (f : ℕ → List ℤ) (i n : ℕ) → concat_below (i + suc n) f ≡ concat_below i f ++ (f i ++ concat_below n (λ k. f (i + suc k)))
unfolding concat_below
concat_below-cut f i zero =
    ap (λ (m : ℕ). concat_below m f) (let e : i + suc zero ≡ suc i = omega arith in e) ∙ ap (λ (x : List ℤ). concat_below i f ++ x) (sym (append-nil (f i)))
concat_below-cut f i (suc n) =
    ap (λ (m : ℕ). concat_below m f) (let e : i + suc (suc n) ≡ suc (i + suc n) = omega arith in e)
    ∙ ap (λ (x : List ℤ). x ++ f (i + suc n)) (concat_below-cut f i n)
    ∙ append_assoc (concat_below i f) (f i ++ concat_below n (λ k. f (i + suc k))) (f (i + suc n))
    ∙ ap (λ (x : List ℤ). concat_below i f ++ x) (append_assoc (f i) (concat_below n (λ k. f (i + suc k))) (f (i + suc n)))

module _ (s : List ℕ) (a c : List ℤ) (m n i at : ℕ) (f g : ℕ → List ℤ) (even-f : (k : ℕ) → length (f k) ≡ m) (even-g : (k : ℕ) → length (g k) ≡ m)
    (same : (k : ℕ) → (k ≡ i → ⊥) → f k ≡ g k) (inside : i < n) (is : length a ≡ at) (room : 8 * (at + n * m + length c) ≤ length s) where
  left : ℕ
  left = n - suc i

  -- the run, of either
  cut : (h : ℕ → List ℤ) → a ++ (concat_below n h ++ c) ≡ (a ++ concat_below i h) ++ (h i ++ (concat_below left (λ k. h (i + suc k)) ++ c))
  unfolding left
  cut h =
      let e : n ≡ i + suc (n - suc i) = omega arith in
      ap (λ (x : List ℤ). a ++ (x ++ c)) (ap (λ (k : ℕ). concat_below k h) e ∙ concat_below-cut h i (n - suc i))
      ∙ ap (λ (x : List ℤ). a ++ x) (append_assoc (concat_below i h) (h i ++ concat_below (n - suc i) (λ k. h (i + suc k))) c ∙ ap (λ (x : List ℤ). concat_below i h ++ x) (append_assoc (h i) (concat_below (n - suc i) (λ k. h (i + suc k))) c))
      ∙ sym (append_assoc a (concat_below i h) _)

  first : concat_below i f ≡ concat_below i g
  first = concat_below-ext i f g (λ k l. same k (λ e. omega arith))

  rest : concat_below left (λ k. f (i + suc k)) ≡ concat_below left (λ k. g (i + suc k))
  rest = concat_below-ext left (λ k. f (i + suc k)) (λ k. g (i + suc k)) (λ k l. same (i + suc k) (λ e. omega arith))

  pub concat_below-patch : put_words (put_words s 0 (a ++ (concat_below n f ++ c))) (8 * (at + i * m)) (g i) ≡ put_words s 0 (a ++ (concat_below n g ++ c))
  unfolding left
  concat_below-patch =
      let here : length (a ++ concat_below i f) ≡ at + i * m = length-append a (concat_below i f) ∙ ap₂ ◌+◌ is (length-concat_below m f even-f i) in
      let behind : List ℤ = concat_below left (λ k. f (i + suc k)) ++ c in
      let whole : length (a ++ (concat_below n f ++ c)) ≡ at + n * m + length c =
      length-append a (concat_below n f ++ c) ∙ ap₂ ◌+◌ is (length-append (concat_below n f) c ∙ ap (λ (k : ℕ). k + length c) (length-concat_below m f even-f n)) ∙ (let e : at + (n * m + length c) ≡ at + n * m + length c = omega arith in e) in
      let parts : length (a ++ (concat_below n f ++ c)) ≡ length (a ++ concat_below i f) + (length (f i) + length behind) =
      ap length (cut f) ∙ length-append (a ++ concat_below i f) (f i ++ behind) ∙ ap (λ (k : ℕ). length (a ++ concat_below i f) + k) (length-append (f i) behind) in
      let fits : 8 * (length (a ++ concat_below i f) + length (f i) + length behind) ≤ length s = omega arith in
      ap (λ (x : List ℤ). put_words (put_words s 0 x) (8 * (at + i * m)) (g i)) (cut f)
      ∙ patch s (a ++ concat_below i f) (f i) (g i) behind (8 * (at + i * m)) (even-f i ∙ sym (even-g i)) (ap (λ (k : ℕ). 8 * k) (sym here)) fits
      ∙ ap (put_words s 0) (ap₂ (λ (x y : List ℤ). (a ++ x) ++ (g i ++ (y ++ c))) first rest ∙ sym (cut g))

-- ════ the parts of a book
abbrev pub with_place : Book → ℕ → Record → Book
with_place b i r = record { network = b.network; places = set b.places i (record { entry = r }); journal = b.journal; normals = b.normals }

abbrev pub with_slot : Book → ℕ → Reversal → Book
with_slot b k u = record { network = b.network; places = b.places; journal = record { entries = set b.journal.entries k u; next = b.journal.next; count = b.journal.count }; normals = b.normals }

abbrev pub with_counts : Book → ℕ → ℕ → Book
with_counts b next count = record { network = b.network; places = b.places; journal = record { entries = b.journal.entries; next = next; count = count }; normals = b.normals }

abbrev pub with_normals : Book → List ℤ → List ℤ → Book
with_normals b m u = record { network = b.network; places = b.places; journal = b.journal; normals = record { matrix = m; right = u } }

module _ (s : List ℕ) (room : book_bytes ≤ length s) (b : Book) (z : Sized b) where
  pub put_place : (i : ℕ) (r : Record) → i < 256 → put_words (put_book s b) (8 * (places_start + i * record_length)) (record_words r) ≡ put_book s (with_place b i r)
  put_place i r h =
      let b' = with_place b i r in
      let z' : Sized b' = record { places = length-set b.places i _ ∙ z.places; entries = z.entries; matrix = z.matrix; right = z.right } in
      let f : ℕ → List ℤ = λ p. record_words (record_at b.places p) in
      let g : ℕ → List ℤ = λ p. record_words (record_at (set b.places i (record { entry = r })) p) in
      let long : i < length b.places = let e = z.places in omega arith in
      let new : g i ≡ record_words r = ap (λ (q : Place). record_words q.entry) (get_or-set_same b.places i (record { entry = r }) vacant long) in
      let fits : 8 * (places_start + 256 * record_length + length (tail b z)) ≤ length s =
      let l = length_book b z in let e = ap length (at-counts b z) ∙ length-append (to_places b z) (tail b z) in let p = length-to_places b z in omega arith in
      ap (λ (x : List ℤ). put_words (put_words s 0 x) (8 * (places_start + i * record_length)) (record_words r)) (at_places b z)
      ∙ ap (put_words (put_words s 0 (to_stations b z ++ (concat_below 256 f ++ tail b z))) (8 * (places_start + i * record_length))) (sym new)
      ∙ concat_below-patch s (to_stations b z) (tail b z) record_length 256 i places_start f g (λ p. length_record _) (λ p. length_record _)
      (λ k d. ap (λ (q : Place). record_words q.entry) (sym (get_or-set_other b.places i k (record { entry = r }) vacant d))) h (length-to_stations b z) fits
      ∙ ap (put_words s 0) (sym (at_places b' z'))

  pub put_slot : (k : ℕ) (u : Reversal) → k < journal_size → put_words (put_book s b) (8 * (entries_start + k * reversal_length)) (reversal_words u) ≡ put_book s (with_slot b k u)
  put_slot k u h =
      let b' = with_slot b k u in
      let z' : Sized b' = record { places = z.places; entries = length-set b.journal.entries k _ ∙ z.entries; matrix = z.matrix; right = z.right } in
      let f : ℕ → List ℤ = λ p. reversal_words (get_or b.journal.entries p free) in
      let g : ℕ → List ℤ = λ p. reversal_words (get_or (set b.journal.entries k u) p free) in
      let c : List ℤ = b.normals.matrix ++ b.normals.right in
      let long : k < length b.journal.entries = let e = z.entries in omega arith in
      let new : g k ≡ reversal_words u = ap reversal_words (get_or-set_same b.journal.entries k u free long) in
      let fits : 8 * (entries_start + journal_size * reversal_length + length c) ≤ length s =
      let l = length_book b z in let e = ap length (at_matrix b z) ∙ length-append (to_entries b z) c in let p = length-to_entries b z in omega arith in
      ap (λ (x : List ℤ). put_words (put_words s 0 x) (8 * (entries_start + k * reversal_length)) (reversal_words u)) (at-entries b z)
      ∙ ap (put_words (put_words s 0 (to_counts b z ++ (concat_below journal_size f ++ c))) (8 * (entries_start + k * reversal_length))) (sym new)
      ∙ concat_below-patch s (to_counts b z) c reversal_length journal_size k entries_start f g (λ p. length_reversal _) (λ p. length_reversal _)
      (λ j d. ap reversal_words (sym (get_or-set_other b.journal.entries k j u free d))) h (length-to_counts b z) fits
      ∙ ap (put_words s 0) (sym (at-entries b' z'))

  pub put_counts : (next count : ℕ) → put_words (put_book s b) (8 * counts_start) (signed next ∷ signed count ∷ []) ≡ put_book s (with_counts b next count)
  put_counts next count =
      let b' = with_counts b next count in
      let z' : Sized b' = record { places = z.places; entries = z.entries; matrix = z.matrix; right = z.right } in
      let c : List ℤ = entries_part b ++ (b.normals.matrix ++ b.normals.right) in
      let fits : 8 * (length (to_places b z) + 2 + length c) ≤ length s =
      let l = length_book b z in let e = ap length (at-entries b z) ∙ length-append (to_counts b z) c in let p = length-to_counts b z in let q = length-to_places b z in omega arith in
      ap (λ (x : List ℤ). put_words (put_words s 0 x) (8 * counts_start) (signed next ∷ signed count ∷ [])) (at-counts b z)
      ∙ patch s (to_places b z) (counts_part b) (signed next ∷ signed count ∷ []) c (8 * counts_start) refl (let q = length-to_places b z in omega arith) fits
      ∙ ap (put_words s 0) (sym (at-counts b' z'))

-- ════ all of them
pub put_edit : (s : List ℕ) → book_bytes ≤ length s → (b : Book) → Sized b → (m v : List ℤ) → length m ≡ 2304 → length v ≡ 48 → (i : ℕ) (r : Record) (slot : ℕ) (u : Reversal) (next count : ℕ) → i < 256 → slot < journal_size
    → (s₁ s₂ s₃ s₄ : List ℕ) → s₁ ≡ put_book s (with_normals b m v) → s₂ ≡ put_words s₁ (8 * (places_start + i * record_length)) (record_words r) → s₃ ≡ put_words s₂ (8 * (entries_start + slot * reversal_length)) (reversal_words u)
    → s₄ ≡ put_words s₃ (8 * counts_start) (signed next ∷ signed count ∷ [])
    → s₄ ≡ put_book s (with_counts (with_slot (with_place (with_normals b m v) i r) slot u) next count)
put_edit s room b z m v lm lv i r slot u next count h k s₁ s₂ s₃ s₄ p₁ p₂ p₃ p₄ =
    let b₁ = with_normals b m v in
    let z₁ : Sized b₁ = record { places = z.places; entries = z.entries; matrix = lm; right = lv } in
    let b₂ = with_place b₁ i r in
    let z₂ : Sized b₂ = record { places = length-set b.places i _ ∙ z.places; entries = z.entries; matrix = lm; right = lv } in
    let b₃ = with_slot b₂ slot u in
    let z₃ : Sized b₃ = record { places = z₂.places; entries = length-set b.journal.entries slot u ∙ z.entries; matrix = lm; right = lv } in
    let q₂ : s₂ ≡ put_book s b₂ = p₂ ∙ ap (λ (x : List ℕ). put_words x (8 * (places_start + i * record_length)) (record_words r)) p₁ ∙ put_place s room b₁ z₁ i r h in
    let q₃ : s₃ ≡ put_book s b₃ = p₃ ∙ ap (λ (x : List ℕ). put_words x (8 * (entries_start + slot * reversal_length)) (reversal_words u)) q₂ ∙ put_slot s room b₂ z₂ slot u k in
    p₄ ∙ ap (λ (x : List ℕ). put_words x (8 * counts_start) (signed next ∷ signed count ∷ [])) q₃ ∙ put_counts s room b₃ z₃ next count
