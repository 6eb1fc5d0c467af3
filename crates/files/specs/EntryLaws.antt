-- Laws of an entry's sixteen words: written, they are linked; linked words are those that writing the first thirteen gives. Assumes nothing.
use Rattle.std.specs.Prelude.{◌≡◌, ℕ, zero, suc, ◌+◌, ◌-◌, ◌%◌, ◌^◌, ◌<◌, ◌≤◌, Bool, true, ◌&&◌, List, [], ◌∷◌, ◌++◌, length, get_or, take, ℤ, pos, FitsSigned, slice_index_or}
use Rattle.std.proofs.Math.Path.{refl, sym, ap}
use Rattle.std.proofs.Common.{◌∙◌, le-ltb, length-append, get_or-take, take_all}
use mathlib.Core.List.{append_assoc}
use native.Mathlib.Omega.{arith}
use Rattle.std.proofs.Math.Decide.{dec_lt}
use Rattle.std.proofs.Math.ListN.{get_or-append}
use Rattle.std.proofs.Math.Seq.{take_at, take-append-le, get_or_at, get_or-append-add, take-suc}
use Rattle.std.specs.Int.{w64}
use Rattle.words.specs.Bools.{and_left, and_right, and_both}
use Rattle.words.specs.Signed.{eq_z, signed}
use Rattle.words.specs.SignedLaws.{eq_z_true, eq-eq_z, signed-fits}
use Rattle.files.specs.Entries.{zeros_from, kind_right, right_words, total, sum_of, previous_trailer, fifteen_words, entry_words, right_entry, linked_entry}

-- ---- rows of tests that passed
pub all_three : (a b c : Bool) → a && b && c ≡ true → (a ≡ true) × (b ≡ true) × (c ≡ true)
all_three a b c e = let l = and_left (a && b) c e in (and_left a b l, and_right a b l, and_right (a && b) c e)

pub all_four : (a b c d : Bool) → a && b && c && d ≡ true → (a ≡ true) × (b ≡ true) × (c ≡ true) × (d ≡ true)
all_four a b c d e = let l = all_three a b c (and_left (a && b && c) d e) in (l.0, l.1, l.2, and_right (a && b && c) d e)

-- ---- two lists with the same thirteen words
module _ (a b : List ℤ) (same : (i : ℕ) → i < 13 → slice_index_or a i (pos 0) ≡ slice_index_or b i (pos 0)) where
  zeros-same : (i n : ℕ) → i + n ≤ 13 → zeros_from a i n ≡ zeros_from b i n
  unfolding zeros_from
  zeros-same i zero h = refl
  zeros-same i (suc n) h = cc (same i (omega arith), zeros-same (i + 1) n (omega arith))

  kind_same : kind_right a ≡ kind_right b
  unfolding kind_right
  kind_same = rw (same 0 (omega arith), zeros-same 4 2 (omega arith), zeros-same 7 5 (omega arith), zeros-same 2 11 (omega arith))

  pub right_same : right_words a ≡ right_words b
  unfolding right_words
  right_same = rw (same 1 (omega arith), kind_same)

-- ---- lengths and words
pub length-fifteen_words : (start : ℕ) (e : List ℤ) → length e ≡ 13 → length (fifteen_words start e) ≡ 15
unfolding fifteen_words
length-fifteen_words start e h = length-append e (signed start ∷ previous_trailer start ∷ []) ∙ omega arith

pub length_entry : (start : ℕ) (e : List ℤ) → length e ≡ 13 → length (entry_words start e) ≡ 16
unfolding entry_words
length_entry start e h = length-append (fifteen_words start e) (sum_of (fifteen_words start e) ∷ []) ∙ omega (arith, length-fifteen_words start e h)

module _ (start : ℕ) (e : List ℤ) (long : length e ≡ 13) where
  low_word : (i : ℕ) → i < 13 → slice_index_or (entry_words start e) i (pos 0) ≡ slice_index_or e i (pos 0)
  unfolding entry_words fifteen_words
  low_word i h =
      get_or-append (fifteen_words start e) (sum_of (fifteen_words start e) ∷ []) (pos 0) i (omega (arith, length-fifteen_words start e long))
      ∙ get_or-append e (signed start ∷ previous_trailer start ∷ []) (pos 0) i (omega arith)

  pub first-thirteen : take 13 (entry_words start e) ≡ e
  unfolding entry_words fifteen_words
  first-thirteen =
      take-append-le 13 (fifteen_words start e) (sum_of (fifteen_words start e) ∷ []) (omega (arith, length-fifteen_words start e long))
      ∙ take_at e (signed start ∷ previous_trailer start ∷ []) 13 long

  first_fifteen : take 15 (entry_words start e) ≡ fifteen_words start e
  unfolding entry_words
  first_fifteen = take_at (fifteen_words start e) (sum_of (fifteen_words start e) ∷ []) 15 (length-fifteen_words start e long)

  start_word : get_or (entry_words start e) 13 (pos 0) ≡ signed start
  unfolding entry_words fifteen_words
  start_word =
      get_or-append (fifteen_words start e) (sum_of (fifteen_words start e) ∷ []) (pos 0) 13 (omega (arith, length-fifteen_words start e long))
      ∙ get_or_at e (signed start) (previous_trailer start ∷ []) (pos 0) 13 long

  previous_word : get_or (entry_words start e) 14 (pos 0) ≡ previous_trailer start
  unfolding entry_words fifteen_words
  previous_word =
      get_or-append (fifteen_words start e) (sum_of (fifteen_words start e) ∷ []) (pos 0) 14 (omega (arith, length-fifteen_words start e long))
      ∙ ap (λ (i : ℕ). get_or (fifteen_words start e) i (pos 0)) at
      ∙ get_or-append-add e (signed start ∷ previous_trailer start ∷ []) 1 (pos 0)
    where
      at : 14 ≡ length e + 1
      at = omega arith

  sum-word : get_or (entry_words start e) 15 (pos 0) ≡ sum_of (fifteen_words start e)
  unfolding entry_words
  sum-word = get_or_at (fifteen_words start e) (sum_of (fifteen_words start e)) [] (pos 0) 15 (length-fifteen_words start e long)

  -- ---- written words are linked
  pub linked_entry_lem : right_words e ≡ true → linked_entry start (entry_words start e) ≡ true
  unfolding linked_entry right_entry
  linked_entry_lem r =
      and_both _ _
      (and_both _ _
      (and_both _ _ (right_same (entry_words start e) e low_word ∙ r) (eq-eq_z _ _ (sum-word ∙ ap sum_of (sym first_fifteen))))
      (eq-eq_z _ _ start_word))
      (eq-eq_z _ _ previous_word)

-- ---- linked words are those that writing gives
module _ (start : ℕ) (w : List ℤ) (long : length w ≡ 16) (linked : linked_entry start w ≡ true) where
  parts : (right_entry w ≡ true) × (eq_z (slice_index_or w 13 (pos 0)) (signed start) ≡ true) × (eq_z (slice_index_or w 14 (pos 0)) (previous_trailer start) ≡ true)
  unfolding linked_entry
  parts = all_three _ _ _ linked

  fifteen : take 15 w ≡ fifteen_words start (take 13 w)
  unfolding fifteen_words
  fifteen =
      let a : get_or w 13 (pos 0) ≡ signed start = eq_z_true _ _ parts.1 in
      let b : get_or w 14 (pos 0) ≡ previous_trailer start = eq_z_true _ _ parts.2 in
      take-suc w 14 (pos 0) (omega arith)
      ∙ ap (λ (l : List ℤ). l ++ (slice_index_or w 14 (pos 0) ∷ [])) (take-suc w 13 (pos 0) (omega arith))
      ∙ append_assoc (take 13 w) (slice_index_or w 13 (pos 0) ∷ []) (slice_index_or w 14 (pos 0) ∷ [])
      ∙ cc

  pub linked_is : w ≡ entry_words start (take 13 w)
  unfolding right_entry entry_words
  linked_is =
      let s : get_or w 15 (pos 0) ≡ sum_of (take 15 w) = eq_z_true _ _ (and_right (right_words w) (eq_z (slice_index_or w 15 (pos 0)) (sum_of (take 15 w))) parts.0) in
      sym (take_all 16 w (omega arith)) ∙ take-suc w 15 (pos 0) (omega arith) ∙ cc fifteen

  pub linked_right : right_entry w ≡ true
  linked_right = parts.0

-- the first thirteen words of a right entry are right
pub right_thirteen : (w : List ℤ) → right_entry w ≡ true → right_words (take 13 w) ≡ true
unfolding right_entry
right_thirteen w s =
    right_same (take 13 w) w (λ i h. get_or-take 13 w i (pos 0) h) ∙ and_left (right_words w) (eq_z (slice_index_or w 15 (pos 0)) (sum_of (take 15 w))) s

-- ---- every word of an entry that fits, fits
pub sum_fits : (ws : List ℤ) → FitsSigned w64 (sum_of ws)
unfolding sum_of
sum_fits ws = signed-fits (total ws % 2 ^ 64) (omega arith)

pub signed_any : (n : ℕ) → FitsSigned w64 (signed n)
signed_any n = by (dec_lt n (2 ^ 64))
  where
    big : 2 ^ 64 ≤ n → 2 ^ 64 - suc n ≡ 0
    big h = omega arith

    by : Dec (n < 2 ^ 64) → FitsSigned w64 (signed n)
    by (yes h) = signed-fits n h
    by (no h) = rw (le-ltb n (2 ^ 63) (omega arith), big (omega arith)) (record { sfits = omega arith })

pub previous_fits : (start : ℕ) → FitsSigned w64 (previous_trailer start)
unfolding previous_trailer
previous_fits zero = record { sfits = omega arith }
previous_fits (suc n) = signed_any (suc n - 24)

-- words of two lists fit where those of each do
pub fits-append : (a b : List ℤ) → ((i : ℕ) → FitsSigned w64 (slice_index_or a i (pos 0))) → ((i : ℕ) → FitsSigned w64 (slice_index_or b i (pos 0))) → (i : ℕ) → FitsSigned w64 (slice_index_or (a ++ b) i (pos 0))
fits-append [] b f g i = g i
fits-append (x ∷ a) b f g zero = f 0
fits-append (x ∷ a) b f g (suc i) = fits-append a b (λ k. f (suc k)) g i

pub fits_cons : (x : ℤ) (a : List ℤ) → FitsSigned w64 x → ((i : ℕ) → FitsSigned w64 (slice_index_or a i (pos 0))) → (i : ℕ) → FitsSigned w64 (slice_index_or (x ∷ a) i (pos 0))
fits_cons x a f g zero = f
fits_cons x a f g (suc i) = g i

pub fits-none : (i : ℕ) → FitsSigned w64 (slice_index_or [] i (pos 0))
fits-none i = record { sfits = omega arith }

pub entry_fits : (start : ℕ) (e : List ℤ) → ((i : ℕ) → FitsSigned w64 (slice_index_or e i (pos 0))) → (i : ℕ) → FitsSigned w64 (slice_index_or (entry_words start e) i (pos 0))
unfolding entry_words fifteen_words
entry_fits start e f =
    fits-append (fifteen_words start e) (sum_of (fifteen_words start e) ∷ [])
    (fits-append e (signed start ∷ previous_trailer start ∷ []) f (fits_cons (signed start) (previous_trailer start ∷ []) (signed_any start) (fits_cons (previous_trailer start) [] (previous_fits start) fits-none)))
    (fits_cons (sum_of (fifteen_words start e)) [] (sum_fits (fifteen_words start e)) fits-none)
