-- A record's share added to the words of bytes: the loops over its terms, what it makes of the bytes of a book, and one record exchanged for another. Assumes nothing.
use Prim.Native.Nat.{ℕ, ◌+◌, ◌-◌, ◌*◌, ◌%◌, ◌<◌, ◌≤◌, ◌^◌, zero-le}
use mathlib.Core.Path.{◌≡◌, refl, sym, ap, ap₂, ◌∙◌, subst}
use mathlib.Core.Bool.{true}
use mathlib.Core.List.{List, [], ◌∷◌, ◌++◌}
use native.Mathlib.Decide.{dec_lt}
use native.Mathlib.Omega.{arith}
use lib.Dec.{T, lit≤, ltb}
use lib.ListN.{length, get_or, get_or-append}
use lib.IntN.{ℤ, pos, negsuc, nat_abs, ◌+ℤ◌, ◌*ℤ◌, *ℤ-zero, +ℤ_idr}
use Rattle.integers.specs.Bounds.{bounds, absle}
use Rattle.integers.specs.Code.{ringm, code_shapes}
use Rattle.integers.specs.Sums.{δ}
use Rattle.integers.specs.Tables.{plus, plus-at, plus-is, plus-length, plus_none, plus_step, plus-plus, Within, within-plus, within_more}
use Rattle.lists.specs.Stored.{stored, fits_by, kept}
use Rattle.words.specs.Words.{Bytes, put_word}
use Rattle.words.specs.Runs.{words_at, put_words}
use Rattle.words.specs.RunLaws.{length_words, run_back, run_kept}
use Rattle.network.specs.Records.{record_at}
use Rattle.network.specs.Rules.{record_fits}
use Rattle.network.specs.RuleLaws.{SoundStations, SoundRecord, sound-stations, sound_record}
use Rattle.network.specs.declared.Station.{Station}
use Rattle.network.specs.declared.Record.{Record}
use Rattle.normals.specs.declared.Equation.{Equation}
use Rattle.normals.specs.declared.Normals.{Normals}
use Rattle.normals.specs.declared.ShareTerm.{ShareTerm}
use Rattle.normals.specs.Equations.{EquationInRange, ends_of, coef_of, weighted, block_n, block_u}
use Rattle.normals.specs.EquationSizes.{pair_size, weighted-size}
use Rattle.normals.specs.ShareTerms.{pair_term, end_term, share_from, share_size, share_N, share_u_lem, share_before}
use Rattle.normals.specs.Shares.{equation, equation-fits}
use Rattle.normals.specs.Exchange.{exchanged_n, exchanged_u, shift_N, shift_u}
use Rattle.book.specs.declared.Book.{Book}
use Rattle.book.specs.Book.{with_record}
use Rattle.book.specs.Sound.{Sized}
use Rattle.book.specs.Exchanged.{exchanged-is}
use Rattle.layout.specs.Layout.{book_words, matrix_start, right_start, book_length, book_bytes}
use Rattle.layout.specs.BookWords.{to_entries, length-to_entries, at_matrix, length_book, matrix_word, right_word}
use Rattle.layout.specs.Bytes.{words_of, book_of, put_book, bytes_fit}
use Rattle.layout.specs.WordSizes.{L, words_within}
use Rattle.layout.specs.CodecLaws.{read_sized, fits-room, fits-sound, fits_words, writes_same}
use Rattle.layout.specs.BookPatches.{with_normals}
use Rattle.layout.specs.RunPatches.{patch-word, patch-whole}

-- ════ a term is small
pub record Small (t : ShareTerm) : Type 0 where
  pub entry : t.entry < 2352
  pub amount : nat_abs t.amount ≤ 3000000000

pub pair_small : (q : Equation) → EquationInRange q → (e f : ℕ) → Small (pair_term q e f)
pair_small q h e f =
    let a = h.ends e in
    let b = h.ends f in
    let p = pair_size q h e f in
    record { entry = omega arith; amount = omega arith }

pub end_small : (q : Equation) → EquationInRange q → (e : ℕ) → Small (end_term q e)
end_small q h e =
    let a = h.ends e in
    let b = h.units e in
    let p = weighted-size q h (e % 3) in
    record { entry = omega arith; amount = absle (coef_of q e *ℤ weighted q (e % 3)) (search bounds) (omega arith) }

-- the ends and weights of an equation in range are in range
pub ends_fit_lem : (q : Equation) → EquationInRange q → EquationInRange (ends_of q.at q.coef q.weight)
ends_fit_lem q f = record { ends = f.ends; units = f.units; weights = f.weights; misclosures = λ a. zero-le }

-- ════ in machine integers
pub sum-stored : (x v : ℤ) → nat_abs x ≤ 2 ^ 42 → nat_abs v ≤ 2 ^ 42 → stored (stored x +ℤ stored v) ≡ x +ℤ v
sum-stored x v hx hv = ringm (x ∷ v ∷ []) (search code_shapes depth 12) tt

-- a term with its sign
module _ (z a : ℤ) (unit : nat_abs z ≤ 1) (h : nat_abs a ≤ 3000000000) where
  pub amount_stored : stored (stored z *ℤ stored a) ≡ stored z *ℤ a
  amount_stored = ringm (z ∷ a ∷ []) (search code_shapes depth 12) tt

  pub amount_small : nat_abs (stored (stored z *ℤ stored a)) ≤ 2 ^ 42
  amount_small = rw amount_stored (let u = kept z unit tt in absle (stored z *ℤ a) (search bounds) (omega arith))

-- words in range are read back
words_read : (s : List ℕ) (w : List ℤ) (B : ℕ) → book_bytes ≤ length s → Within book_length B w → T (ltb B (2 ^ 63)) → words_of (put_words s 0 w) ≡ w
words_read s w B room o small =
    let long = o.long in
    subst (λ (n : ℕ). words_at (put_words s 0 w) 0 n ≡ w) long (run_back s 0 w (omega arith) (λ i. fits_by (get_or w i (pos 0)) (o.bound i) small))

-- ════ a loop that adds to the words of s: by now z times g is added
pub none_added : (s : List ℕ) (z : ℤ) (g : ℕ → ℤ) → Bytes s → ((k : ℕ) → g k ≡ pos 0) → s ≡ put_words s 0 (plus book_length (words_of s) z g)
none_added s z g bytes none = sym (run_kept s 0 book_length bytes) ∙ ap (put_words s 0) (plus_none book_length (words_of s) z g (length_words s 0 book_length) none)

module _ (s : List ℕ) (room : book_bytes ≤ length s) (z : ℤ) (unit : nat_abs z ≤ 1) (o : Within book_length (2 ^ 41) (words_of s)) (g : ℕ → ℤ) (size : (k : ℕ) → nat_abs (g k) ≤ 2 ^ 41) (t : List ℕ) (e : t ≡ put_words s 0 (plus book_length (words_of s) z g)) where
  abbrev added : List ℤ
  added = plus book_length (words_of s) z g

  added_within : Within book_length (2 ^ 42) added
  added_within = within-plus book_length (words_of s) z g (2 ^ 41) (2 ^ 41) unit o size

  added_read : words_of t ≡ added
  added_read = ap words_of e ∙ words_read s added (2 ^ 42) room added_within tt

  pub in_range_lem : (k : ℕ) → nat_abs (get_or (words_of t) k (pos 0)) ≤ 2 ^ 42
  in_range_lem k = subst (λ (w : List ℤ). nat_abs (get_or w k (pos 0)) ≤ 2 ^ 42) (sym added_read) (added_within.bound k)

  -- z times a more at word k
  pub one_added : (h : ℕ → ℤ) (u : List ℕ) (k : ℕ) (v a : ℤ) → k < book_length → v ≡ z *ℤ a → ((i : ℕ) → h i ≡ g i +ℤ a *ℤ δ k i) → u ≡ put_word t (8 * k) (get_or (words_of t) k (pos 0) +ℤ v) → u ≡ put_words s 0 (plus book_length (words_of s) z h)
  one_added h u k v a inside is more p =
      let long = plus-length book_length (words_of s) z g in
      p
      ∙ ap₂ (λ (x : List ℕ) (w : List ℤ). put_word x (8 * k) (get_or w k (pos 0) +ℤ v)) e added_read
      ∙ patch-word s added k (get_or added k (pos 0) +ℤ v) (omega arith) (omega arith)
      ∙ ap (put_words s 0) (plus_step book_length (words_of s) z g h added k a (get_or added k (pos 0) +ℤ v) refl inside more (ap (λ (x : ℤ). get_or added k (pos 0) +ℤ x) is))

  -- z times f more
  pub more_added : (f h : ℕ → ℤ) (u : List ℕ) → ((i : ℕ) → h i ≡ g i +ℤ f i) → u ≡ put_words t 0 (plus book_length (words_of t) z f) → u ≡ put_words s 0 (plus book_length (words_of s) z h)
  more_added f h u more p =
      let long = plus-length book_length (words_of s) z g in
      let even = long ∙ sym (plus-length book_length added z f) in
      p
      ∙ ap₂ (λ (x : List ℕ) (w : List ℤ). put_words x 0 (plus book_length w z f)) e added_read
      ∙ patch-whole s added (plus book_length added z f) even (omega arith)
      ∙ ap (put_words s 0) (plus-plus book_length (words_of s) z g f h more)

  pub still_within : (a b : ℕ) → Within book_length a (words_of s) → ((k : ℕ) → nat_abs (g k) ≤ b) → Within book_length (a + b) (words_of t)
  still_within a b w small = rw added_read (within-plus book_length (words_of s) z g a b unit w small)

-- ════ a share added to the words of a book is added to its N and u
module _ (b : Book) (z : Sized b) (q : Equation) (f : EquationInRange q) (x : ℤ) where
  abbrev pub with_share : Book
  with_share = with_normals b (plus 2304 b.normals.matrix x (block_n q)) (plus 48 b.normals.right x (block_u q))

  pub sized_share : Sized with_share
  sized_share = record { places = z.places; entries = z.entries; matrix = plus-length 2304 _ x _; right = plus-length 48 _ x _ }

  words_share : plus book_length (book_words b) x (share_from matrix_start q) ≡ book_words with_share
  words_share = sym (plus-is book_length (book_words b) x (share_from matrix_start q) (book_words with_share) (length_book with_share sized_share) (λ k h. entry k h (dec_lt k matrix_start) (dec_lt k right_start)))
    where
      at : ℕ → Type 0
      at k = get_or (book_words with_share) k (pos 0) ≡ get_or (book_words b) k (pos 0) +ℤ x *ℤ share_from matrix_start q k

      -- the words before N stay
      before : (c : Book) (y : Sized c) (k : ℕ) → k < matrix_start → get_or (book_words c) k (pos 0) ≡ get_or (to_entries c y) k (pos 0)
      before c y k l =
          ap (λ (w : List ℤ). get_or w k (pos 0)) (at_matrix c y) ∙ get_or-append (to_entries c y) (c.normals.matrix ++ c.normals.right) (pos 0) k (let e = length-to_entries c y in omega arith)

      in_matrix : (i : ℕ) → i < 2304 → at (matrix_start + i)
      in_matrix i l =
          matrix_word with_share sized_share i l
          ∙ plus-at 2304 b.normals.matrix x (block_n q) i l
          ∙ ap₂ (λ (y t : ℤ). y +ℤ x *ℤ t) (sym (matrix_word b z i l)) (sym (share_N matrix_start q f i l))

      in_right : (i : ℕ) → i < 48 → at (right_start + i)
      in_right i l =
          right_word with_share sized_share i
          ∙ plus-at 48 b.normals.right x (block_u q) i l
          ∙ ap₂ (λ (y t : ℤ). y +ℤ x *ℤ t) (sym (right_word b z i)) (sym (share_u_lem matrix_start q f i))

      entry : (k : ℕ) → k < book_length → Dec (k < matrix_start) → Dec (k < right_start) → at k
      entry k h (yes l) d =
          before with_share sized_share k l
          ∙ sym (before b z k l)
          ∙ sym (ap (λ (t : ℤ). get_or (book_words b) k (pos 0) +ℤ x *ℤ t) (share_before matrix_start q f k l) ∙ ap (λ (t : ℤ). get_or (book_words b) k (pos 0) +ℤ t) (*ℤ-zero x) ∙ +ℤ_idr _)
      entry k h (no l) (yes r) = subst at (let e : matrix_start + (k - matrix_start) ≡ k = omega arith in e) (in_matrix (k - matrix_start) (omega arith))
      entry k h (no l) (no r) = subst at (let e : right_start + (k - right_start) ≡ k = omega arith in e) (in_right (k - right_start) (omega arith))

  pub share_within : (a : ℕ) → nat_abs x ≤ 1 → Within book_length a (book_words b) → Within book_length (a + 18000360000) (book_words with_share)
  share_within a unit o = subst (Within book_length (a + 18000360000)) words_share (within-plus book_length (book_words b) x _ a 18000360000 unit o (share_size matrix_start q f))

  pub share_put : (s t u : List ℕ) → book_bytes ≤ length s → t ≡ put_book s b → words_of t ≡ book_words b → u ≡ put_words t 0 (plus book_length (words_of t) x (share_from matrix_start q)) → u ≡ put_book s with_share
  share_put s t u room is same p =
      let long = length_book b z in
      let even = long ∙ sym (length_book with_share sized_share) in
      p
      ∙ ap₂ (λ (y : List ℕ) (w : List ℤ). put_words y 0 w) is (ap (λ (w : List ℤ). plus book_length w x (share_from matrix_start q)) same ∙ words_share)
      ∙ patch-whole s (book_words b) (book_words with_share) even (omega arith)

-- ════ the record of a place exchanged: its share off, and that of r on
module _ (s : List ℕ) (fit : bytes_fit s ≡ true) (i : ℕ) (r : Record) (inside : i < 256) (rules : record_fits (book_of s).network r ≡ true) where
  abbrev b : Book
  b = book_of s

  abbrev st : List Station
  st = b.network.stations

  abbrev old : Record
  old = record_at b.places i

  sound_old : SoundRecord st old
  sound_old = sound_record b.network old (fits-sound s fit).network ((fits-sound s fit).records i)

  sound_new : SoundRecord st r
  sound_new = sound_record b.network r (fits-sound s fit).network rules

  stations : SoundStations st
  stations = sound-stations b.network (fits-sound s fit).network

  pub off_fits : EquationInRange (equation st old)
  off_fits = equation-fits st stations old sound_old

  pub on_fits : EquationInRange (equation st r)
  on_fits = equation-fits st stations r sound_new

  pub first-within : Within book_length (2 ^ 40) (words_of s)
  first-within = rw (fits_words s fit) (within_more book_length L (2 ^ 40) (book_words b) (lit≤ tt) (words_within b (fits-sound s fit)))

  abbrev without : Book
  without = with_share b (read_sized s) (equation st old) off_fits (negsuc 0)

  abbrev sized_without : Sized without
  sized_without = sized_share b (read_sized s) (equation st old) off_fits (negsuc 0)

  without_within : Within book_length (2 ^ 40) (book_words without)
  without_within =
      within_more book_length (L + 18000360000) (2 ^ 40) (book_words without) (lit≤ tt) (share_within b (read_sized s) (equation st old) off_fits (negsuc 0) L (lit≤ tt) (words_within b (fits-sound s fit)))

  module _ (bytes : Bytes s) (t : List ℕ) (e : t ≡ put_words s 0 (plus book_length (words_of s) (negsuc 0) (share_from matrix_start (equation st old)))) where
    taken_off : t ≡ put_book s without
    taken_off = share_put b (read_sized s) (equation st old) off_fits (negsuc 0) s s t (fits-room s fit) (sym (writes_same s fit bytes)) (fits_words s fit) e

    second_read : words_of t ≡ book_words without
    second_read = ap words_of taken_off ∙ words_read s (book_words without) (2 ^ 40) (fits-room s fit) without_within tt

    pub second_within : Within book_length (2 ^ 40) (words_of t)
    second_within = rw second_read without_within

    pub put_on : (u : List ℕ) → u ≡ put_words t 0 (plus book_length (words_of t) (pos 1) (share_from matrix_start (equation st r))) → u ≡ put_book s (with_normals b (with_record b i r).matrix (with_record b i r).right)
    unfolding exchanged_n exchanged_u
    put_on u p =
        let n = b.normals.matrix in
        let v = b.normals.right in
        let same = exchanged-is b (fits-sound s fit) i r inside in
        share_put without sized_without (equation st r) on_fits (pos 1) s t u (fits-room s fit) taken_off second_read p
        ∙ ap₂ (λ (x y : List ℤ). put_book s (with_normals b x y))
        (ap (λ (x : List ℤ). plus 2304 x (pos 1) (block_n (equation st r))) (shift_N st stations old sound_old n (negsuc 0)) ∙ shift_N st stations r sound_new _ (pos 1) ∙ ap (λ (x : Normals). x.matrix) same)
        (ap (λ (x : List ℤ). plus 48 x (pos 1) (block_u (equation st r))) (shift_u st stations old sound_old v (negsuc 0)) ∙ shift_u st stations r sound_new _ (pos 1) ∙ ap (λ (x : Normals). x.right) same)
