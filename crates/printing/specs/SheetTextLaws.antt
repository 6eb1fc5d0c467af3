-- The steps of writing a sheet's lines. Assumes nothing.
use Rattle.std.specs.Prelude.{◌≡◌, true, false, List, [], ◌∷◌, ◌++◌, ℕ, ◌+◌, ◌*◌, ◌<◌, ◌≤◌, length, get_or, take, drop, ℤ, pos}
use Rattle.std.proofs.Common.{sym, ap, ◌∙◌, append_assoc, append-nil, length-drop, take-suc, get_or-drop, SFits, to_z, of_z, to_z-of_z}
use native.Mathlib.Omega.{arith}
use Rattle.std.proofs.Math.Numerals.{add-one}
use borrow.Author.Tests.{eq-eqb, ne_eqb}
use Rattle.std.specs.Int.{w64}
use Rattle.text.specs.Fields.{space}
use Rattle.integers.specs.Sums.{sum_n, sum_n-+1, sum_n-first}
use Rattle.words.specs.Signed.{eq_z}
use Rattle.network.specs.Records.{observations, is_empty, record_at}
use Rattle.network.specs.declared.Network.{Network}
use Rattle.network.specs.declared.Place.{Place}
use Rattle.network.specs.declared.Record.{Record}
use Rattle.sheet.specs.Sheet.{line_length, room}
use Rattle.text.specs.Numbers.{decimal}
use Rattle.text.specs.Writing.{Written, nothing}
use Rattle.printing.specs.SheetText.{spaced, fields, high_verdict, verdict, station_text, baseline_text, height_text, station_texts, text_for, record_text, record_start, record_texts, global_start}

-- the text of a number that was handed over by its bits
pub by_bits : (text : ℤ → List ℕ) {v : ℤ} → SFits w64 v → text (to_z w64 (of_z w64 v)) ≡ text v
by_bits text f = ap text (to_z-of_z f)

-- ════ fields
spaced_snoc : (vs : List ℤ) (v : ℤ) → spaced vs ++ decimal v ++ (space ∷ []) ≡ spaced (vs ++ (v ∷ []))
unfolding spaced
spaced_snoc [] v = sym (append-nil (decimal v ++ (space ∷ [])))
spaced_snoc (u ∷ vs) v =
    ap (λ (l : List ℕ). l ++ (space ∷ [])) (append_assoc (decimal u ++ (space ∷ [])) (spaced vs) (decimal v))
    ∙ append_assoc (decimal u ++ (space ∷ [])) (spaced vs ++ decimal v) (space ∷ [])
    ∙ ap (λ (l : List ℕ). decimal u ++ (space ∷ []) ++ l) (spaced_snoc vs v)

pub fields-start : (l : List ℕ) (at : ℕ) (w : List ℤ) (o : ℕ) → Written l at (fields w o 0) at l
unfolding spaced
fields-start l at w o = nothing l at

pub fields-more : (w : List ℤ) (o i : ℕ) → o + i < length w → fields w o i ++ decimal (get_or w (o + i) (pos 0)) ++ (space ∷ []) ≡ fields w o (i + 1)
fields-more w o i h =
    let inside : i < length (drop o w) = rw length-drop (omega arith) in
    let e : take (i + 1) (drop o w) ≡ take i (drop o w) ++ (get_or w (o + i) (pos 0) ∷ []) =
    rw add-one (take-suc (drop o w) i (pos 0) inside ∙ rw (get_or-drop o w i (pos 0))) in
    spaced_snoc (take i (drop o w)) (get_or w (o + i) (pos 0)) ∙ rw e

-- ════ verdicts
module _ (v : ℤ) where
  module _ (a : eq_z v (pos 0) ≡ false) where
    pub is_fail : eq_z v (pos 1) ≡ true → 70 ∷ 65 ∷ 73 ∷ 76 ∷ [] ≡ verdict v
    unfolding verdict
    is_fail e = rw (a, e)

    module _ (b : eq_z v (pos 1) ≡ false) where
      pub is_loose : eq_z v (pos 2) ≡ true → 76 ∷ 79 ∷ 79 ∷ 83 ∷ 69 ∷ [] ≡ verdict v
      unfolding verdict
      is_loose e = rw (a, b, e)

      pub is-high : eq_z v (pos 2) ≡ false → high_verdict v ≡ verdict v
      unfolding verdict
      is-high e = rw (a, b, e)

  pub is-pass : eq_z v (pos 0) ≡ true → 80 ∷ 65 ∷ 83 ∷ 83 ∷ [] ≡ verdict v
  unfolding verdict
  is-pass e = rw e

  pub is-low : eq_z v (pos 3) ≡ true → 76 ∷ 79 ∷ 87 ∷ [] ≡ high_verdict v
  unfolding high_verdict
  is-low e = rw e

  module _ (a : eq_z v (pos 3) ≡ false) where
    pub is-above : eq_z v (pos 4) ≡ true → 72 ∷ 73 ∷ 71 ∷ 72 ∷ [] ≡ high_verdict v
    unfolding high_verdict
    is-above e = rw (a, e)

    pub is_none : eq_z v (pos 4) ≡ false → 78 ∷ 79 ∷ 78 ∷ 69 ∷ [] ≡ high_verdict v
    unfolding high_verdict
    is_none e = rw (a, e)

-- ════ the lines of several
pub stations-start : (l : List ℕ) (at : ℕ) (w : List ℤ) → Written l at (station_texts w 0) at l
unfolding station_texts
stations-start l at w = nothing l at

pub stations-more : (w : List ℤ) (n : ℕ) → station_texts w n ++ station_text w (2 + n * 7) ≡ station_texts w (n + 1)
unfolding station_texts
stations-more w n = rw add-one

-- ════ the line of a record
module _ (w : List ℤ) (o : ℕ) (r : Record) where
  pub a_baseline : observations r ≡ 3 → baseline_text w o ≡ record_text w o r
  unfolding text_for
  a_baseline e = rw (eq-eqb (observations r) 3 e)

  module _ (q : observations r ≡ 3 → ⊥) where
    pub a_height : observations r ≡ 1 → height_text w o ≡ record_text w o r
    unfolding text_for
    a_height e = rw (ne_eqb (observations r) 3 q, eq-eqb (observations r) 1 e)

    pub no_line : (observations r ≡ 1 → ⊥) → [] ≡ record_text w o r
    unfolding text_for
    no_line e = rw (ne_eqb (observations r) 3 q, ne_eqb (observations r) 1 e)

-- the words that a record takes that observes something
pub words_observed : (r : Record) (n : ℕ) → observations r ≡ n → (n ≡ 0 → ⊥) → line_length r ≡ 1 + 2 * n
unfolding line_length is_empty
words_observed r n e q = rw (e, ne_eqb n 0 q)

-- ════ the lines of the records
module _ (o : ℕ) (places : List Place) where
  pub records-start : (l : List ℕ) (at : ℕ) (w : List ℤ) → Written l at (record_texts w o places 0) at l
  unfolding record_texts
  records-start l at w = nothing l at

  pub start_zero : o ≡ record_start o places 0
  unfolding record_start sum_n
  start_zero = omega arith

  pub start-more : (k : ℕ) → record_start o places k + line_length (record_at places k) ≡ record_start o places (k + 1)
  unfolding record_start
  start-more k = omega (arith, sum_n-+1 k (λ p. line_length (record_at places p)))

  pub records-more :
      (w : List ℤ) (k : ℕ) → record_texts w o places k ++ record_text w (record_start o places k) (record_at places k) ≡ record_texts w o places (k + 1)
  unfolding record_texts
  records-more w k = rw add-one

  -- the words of the places up to the k-th end where those of the last do, at most
  pub start_rises : (k n : ℕ) → k ≤ n → record_start o places k ≤ record_start o places n
  unfolding record_start
  start_rises k n h = omega (arith, sum_n-first k n (λ p. line_length (record_at places p)) h)

pub global_after : (n : ℕ) (places : List Place) → 2 + n * 7 ≤ global_start n places
global_after n places = omega (arith, start_rises (2 + n * 7) places 0 256 (omega arith), start_zero (2 + n * 7) places)

-- the words of the global test end the sheet's
pub global_room_lem : (net : Network) (places : List Place) → global_start net.count places + 3 ≡ room net places
unfolding record_start room
global_room_lem net places = omega arith
