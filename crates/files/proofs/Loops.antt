-- A turn of each loop over an entry's words, or over a file's entries, and its end. Assumes nothing.
use Rattle.std.proofs.Common.{◌≡◌, ℕ, suc, ◌+◌, ◌-◌, ◌*◌, ◌%◌, ◌^◌, ◌<◌, ◌≤◌, Bool, true, false, cond, ◌&&◌, List, length, get_or, drop, ℤ, pos, sym, refl, ap, ◌∙◌, arith, drop_of_length-le, drop-cons}
use Rattle.words.specs.Bools.{and_no_right}
use Rattle.words.specs.Signed.{eq_z, signed, unsigned}
use Rattle.words.specs.Words.{word_at}
use Rattle.files.specs.Entries.{total, sum_of}
use Rattle.files.specs.Files.{linked_at, linked_to, latest_entry_to}

-- ---- the sum: what is passed and what is left
module _ (w : List ℤ) (s i : ℕ) (e : (s + total (drop i w)) % 2 ^ 64 ≡ total w % 2 ^ 64) where
  pub sum-turn : (v : ℕ) → i < length w → v ≡ (s + unsigned (get_or w i (pos 0))) % 2 ^ 64 → (v + total (drop (i + 1) w)) % 2 ^ 64 ≡ total w % 2 ^ 64
  unfolding total
  sum-turn v h p =
      let here : total (drop i w) ≡ unsigned (get_or w i (pos 0)) + total (drop (suc i) w) = ap total (drop-cons w i (pos 0) h) in
      let k : suc i ≡ i + 1 = omega arith in
      let there : total (drop (suc i) w) ≡ total (drop (i + 1) w) = ap (λ (j : ℕ). total (drop j w)) k in
      omega arith

  pub sum_end : length w ≤ i → s < 2 ^ 64 → signed s ≡ sum_of w
  unfolding total sum_of
  sum_end h b =
      let none : total (drop i w) ≡ 0 = ap total (drop_of_length-le w h) in
      let all : s ≡ total w % 2 ^ 64 = omega arith in
      ap signed all

and_true : (b : Bool) → b && true ≡ b
and_true true = refl
and_true false = refl

-- ---- entries from the last back
module _ (f : List ℕ) (n : ℕ) (more : 0 < n) {b : Bool} (all : linked_to f n ≡ b) where
  linked_at_end : linked_to f (n - 1) && linked_at f (128 * (n - 1)) ≡ b
  unfolding linked_to
  linked_at_end = let up : n ≡ suc (n - 1) = omega arith in sym (ap (linked_to f) up) ∙ all

  pub linked_turn : linked_at f (128 * (n - 1)) ≡ true → linked_to f (n - 1) ≡ b
  linked_turn t = sym (and_true (linked_to f (n - 1))) ∙ ap (λ (x : Bool). linked_to f (n - 1) && x) (sym t) ∙ linked_at_end

  pub linked_no : linked_at f (128 * (n - 1)) ≡ false → false ≡ b
  linked_no t = sym (and_no_right (linked_to f (n - 1)) (linked_at f (128 * (n - 1))) t) ∙ linked_at_end

-- ---- the latest entry for a place, from the last entry back
module _ (f : List ℕ) (p : ℤ) {l : ℕ} where
  latest-at : (n : ℕ) → 0 < n → latest_entry_to f p n ≡ l → cond (eq_z (word_at f (128 * (n - 1) + 8)) p) (128 * (n - 1)) (latest_entry_to f p (n - 1)) ≡ l
  unfolding latest_entry_to
  latest-at n h e = let up : n ≡ suc (n - 1) = omega arith in sym (ap (latest_entry_to f p) up) ∙ e

  pub latest-found : (n : ℕ) → 0 < n → latest_entry_to f p n ≡ l → eq_z (word_at f (128 * (n - 1) + 8)) p ≡ true → 128 * (n - 1) ≡ l
  latest-found n h e t = rw t at (latest-at n h e)

  pub latest-passed : (n : ℕ) → 0 < n → latest_entry_to f p n ≡ l → eq_z (word_at f (128 * (n - 1) + 8)) p ≡ false → latest_entry_to f p (n - 1) ≡ l
  latest-passed n h e t = rw t at (latest-at n h e)

  pub latest-none : (n : ℕ) → n ≡ 0 → latest_entry_to f p n ≡ l → length f ≡ l
  unfolding latest_entry_to
  latest-none n z e = rw z at e
