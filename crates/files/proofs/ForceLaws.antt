-- Laws of the latest entry for a place and of the entry in force. Assumes nothing.
use Rattle.files.specs.Statements.{Latest}
use Rattle.std.specs.Prelude.{◌≡◌, ℕ, zero, suc, ◌+◌, ◌*◌, ◌/◌, ◌<◌, ◌≤◌, true, false, cond, ◌&&◌, ◌⊎◌, List, length, ℤ, pos, ◌≢◌, int_le, nat_lt, refl, Ok, Err}
use Rattle.std.proofs.Common.{inl, inr, arith, ltb-true}
use Rattle.std.proofs.Math.Decide.{ℕ_discrete}
use Rattle.words.specs.Bools.{true_or_false, and_left, and_right}
use Rattle.words.specs.Signed.{eq_z}
use Rattle.words.specs.SignedLaws.{eq_z_true, eq_z_false}
use Rattle.words.specs.Words.{word_at}
use Rattle.files.specs.Files.{reads, latest_entry_to, latest_entry}
use Rattle.files.proofs.FileLaws.{reads_whole}
use Rattle.files.specs.Force.{force_in, in_force, Inside}
use Rattle.files.specs.declared.FileRefusal.TheVariants.{BadPlace, Unreadable, NoEntry}
use Rattle.files.specs.declared.EntryFound.TheVariants.{InNight, InDay}

-- ════ the latest entry for a place
latest_below : (f : List ℕ) (p : ℤ) (n : ℕ) → 128 * n ≤ length f → latest_entry_to f p n < length f → Latest f p n (latest_entry_to f p n)
unfolding latest_entry_to
latest_below f p zero h l = absurd (omega arith)
latest_below f p (suc n) h l = go (λ q. latest_below f p n (omega arith) q) (true_or_false (eq_z (word_at f (128 * n + 8)) p))
  where
    go : (latest_entry_to f p n < length f → Latest f p n (latest_entry_to f p n)) → (eq_z (word_at f (128 * n + 8)) p ≡ true) ⊎ (eq_z (word_at f (128 * n + 8)) p ≡ false)
        → Latest f p (suc n) (cond (eq_z (word_at f (128 * n + 8)) p) (128 * n) (latest_entry_to f p n))
    go more (inl t) = rw t (record { number = n; below = omega arith; start = refl; place = eq_z_true _ _ t; last = λ i a b. absurd (omega arith) })
    go more (inr t) =
        let m = more (rw t at l) in
        rw t (record { number = m.number; below = omega (arith, m.below); start = m.start; place = m.place; last = λ i a b. later m i a b (ℕ_discrete i n) })
      where
        later : (m : Latest f p n (latest_entry_to f p n)) (i : ℕ) → m.number < i → i < suc n → Dec (i ≡ n) → word_at f (128 * i + 8) ≢ p
        later m i a b (yes q) = rw q (eq_z_false _ _ t)
        later m i a b (no q) = m.last i a (omega arith)

none_below : (f : List ℕ) (p : ℤ) (n : ℕ) → 128 * n ≤ length f → latest_entry_to f p n ≡ length f → (i : ℕ) → i < n → word_at f (128 * i + 8) ≢ p
unfolding latest_entry_to
none_below f p zero h l i b = absurd (omega arith)
none_below f p (suc n) h l i b = go (λ q. none_below f p n (omega arith) q i) (true_or_false (eq_z (word_at f (128 * n + 8)) p)) (ℕ_discrete i n)
  where
    go : (latest_entry_to f p n ≡ length f → i < n → word_at f (128 * i + 8) ≢ p) → (eq_z (word_at f (128 * n + 8)) p ≡ true) ⊎ (eq_z (word_at f (128 * n + 8)) p ≡ false)
        → Dec (i ≡ n) → word_at f (128 * i + 8) ≢ p
    go more (inl t) d = absurd (let q : 128 * n ≡ length f = rw t at l in omega arith)
    go more (inr t) (yes q) = rw q (eq_z_false _ _ t)
    go more (inr t) (no q) = more (rw t at l) (omega arith)

module _ (f : List ℕ) (whole : reads f ≡ true) (p : ℤ) where
  pub latest-is : latest_entry f p < length f → Latest f p (length f / 128) (latest_entry f p)
  unfolding latest_entry
  latest-is l = let w = reads_whole f whole in latest_below f p (length f / 128) (omega (arith, w.whole)) l

  pub latest-none : latest_entry f p ≡ length f → (i : ℕ) → i < length f / 128 → word_at f (128 * i + 8) ≢ p
  unfolding latest_entry
  latest-none e = let w = reads_whole f whole in none_below f p (length f / 128) (omega (arith, w.whole)) e

  -- an entry found lies in the file
  pub latest-inside : latest_entry f p < length f → latest_entry f p + 128 ≤ length f
  latest-inside l = let w = reads_whole f whole in let m = latest-is l in omega (arith, w.whole, m.below, m.start)

-- ════ what is found lies in the file that it names
module _ (night day : List ℕ) (p : ℤ) where
  force_inside : reads night ≡ true → reads day ≡ true → Inside (force_in night day p) (length night) (length day)
  unfolding force_in Inside
  force_inside rn rd = go (true_or_false (nat_lt (latest_entry night p) (length night))) (true_or_false (nat_lt (latest_entry day p) (length day)))
    where
      go : (nat_lt (latest_entry night p) (length night) ≡ true) ⊎ (nat_lt (latest_entry night p) (length night) ≡ false)
          → (nat_lt (latest_entry day p) (length day) ≡ true) ⊎ (nat_lt (latest_entry day p) (length day) ≡ false)
          → Inside
          (cond (nat_lt (latest_entry night p) (length night)) (Ok (InNight (latest_entry night p))) (cond (nat_lt (latest_entry day p) (length day)) (Ok (InDay (latest_entry day p))) (Err NoEntry)))
          (length night) (length day)
      go (inl t) d = rw t (latest-inside night rn p (ltb-true _ _ t))
      go (inr t) (inl d) = rw (t, d) (latest-inside day rd p (ltb-true _ _ d))
      go (inr t) (inr d) = rw (t, d) tt

  pub found_inside : Inside (in_force night day p) (length night) (length day)
  unfolding in_force Inside
  found_inside = go (true_or_false (int_le (pos 1) p && int_le p (pos 256))) (true_or_false (reads night && reads day))
    where
      go : (int_le (pos 1) p && int_le p (pos 256) ≡ true) ⊎ (int_le (pos 1) p && int_le p (pos 256) ≡ false)
          → (reads night && reads day ≡ true) ⊎ (reads night && reads day ≡ false)
          → Inside (cond (int_le (pos 1) p && int_le p (pos 256)) (cond (reads night && reads day) (force_in night day p) (Err Unreadable)) (Err BadPlace)) (length night) (length day)
      go (inr t) r = rw t tt
      go (inl t) (inr r) = rw (t, r) tt
      go (inl t) (inl r) = rw (t, r) (force_inside (and_left (reads night) (reads day) r) (and_right (reads night) (reads day) r))
