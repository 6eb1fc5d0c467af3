-- The entry in force, of entries: what the part that is shown holds. Assumes nothing.
use Rattle.files.specs.Statements.{latest_for, entry_in_force, Shows}
use Rattle.std.specs.Prelude.{◌≡◌, ℕ, zero, suc, ◌+◌, ◌*◌, ◌/◌, ◌<◌, ◌≤◌, true, false, cond, ◌&&◌, ◌⊎◌, List, [], ◌∷◌, ◌++◌, length, get_or, take, drop, ℤ, pos, int_le, nat_lt, slice_index_or, refl, Ok, Err}
use Rattle.std.proofs.Common.{sym, ap, ◌∙◌, inl, inr, arith, lt-ltb, le-ltb}
use Rattle.words.specs.Bools.{true_or_false}
use Rattle.words.specs.Signed.{eq_z}
use Rattle.words.specs.Words.{word_at}
use Rattle.words.specs.Runs.{words_at}
use Rattle.words.specs.RunLaws.{words_at_lem}
use Rattle.files.specs.BytesLaws.{words_part, words_take}
use Rattle.files.specs.Files.{reads, entries_from, entries_of, latest_entry_to, latest_entry}
use Rattle.files.proofs.FileLaws.{reads_whole, entries-more}
use Rattle.files.specs.Force.{force_in, in_force, shown}
use Rattle.files.specs.declared.FileRefusal.TheVariants.{NoEntry}
use Rattle.files.specs.declared.EntryFound.TheVariants.{InNight, InDay}

-- ════ the latest entry of a file
latest_snoc : (es : List (List ℤ)) (e : List ℤ) (p : ℤ) (none : List ℤ) → latest_for (es ++ (e ∷ [])) p none ≡ cond (eq_z (slice_index_or e 1 (pos 0)) p) e (latest_for es p none)
unfolding latest_for
latest_snoc [] e p none = refl
latest_snoc (x ∷ es) e p none = latest_snoc es e p (cond (eq_z (slice_index_or x 1 (pos 0)) p) x none)

latest-to : (f : List ℕ) (p : ℤ) (none : List ℤ) (n : ℕ) → 128 * n ≤ length f
    → latest_for (entries_from f 0 n) p none ≡ cond (nat_lt (latest_entry_to f p n) (length f)) (words_at f (latest_entry_to f p n) 13) none
unfolding latest_for latest_entry_to entries_from
latest-to f p none zero h = rw (le-ltb (length f) (length f) (omega arith))
latest-to f p none (suc n) h =
    let q : 0 + 128 * n ≡ 128 * n = omega arith in
    let place : get_or (words_at f (128 * n) 13) 1 (pos 0) ≡ word_at f (128 * n + 8) = words_at_lem f (128 * n) 13 1 (omega arith) in
    ap (λ (l : List (List ℤ)). latest_for l p none) (entries-more f 0 n ∙ ap (λ (k : ℕ). entries_from f 0 n ++ (words_at f k 13 ∷ [])) q)
    ∙ latest_snoc (entries_from f 0 n) (words_at f (128 * n) 13) p none
    ∙ ap (λ (z : ℤ). cond (eq_z z p) (words_at f (128 * n) 13) (latest_for (entries_from f 0 n) p none)) place
    ∙ go (latest-to f p none n (omega arith)) (true_or_false (eq_z (word_at f (128 * n + 8)) p))
  where
    go : latest_for (entries_from f 0 n) p none ≡ cond (nat_lt (latest_entry_to f p n) (length f)) (words_at f (latest_entry_to f p n) 13) none
        → (eq_z (word_at f (128 * n + 8)) p ≡ true) ⊎ (eq_z (word_at f (128 * n + 8)) p ≡ false)
        → cond (eq_z (word_at f (128 * n + 8)) p) (words_at f (128 * n) 13) (latest_for (entries_from f 0 n) p none)
        ≡ cond (nat_lt (cond (eq_z (word_at f (128 * n + 8)) p) (128 * n) (latest_entry_to f p n)) (length f))
        (words_at f (cond (eq_z (word_at f (128 * n + 8)) p) (128 * n) (latest_entry_to f p n)) 13) none
    go before (inl t) = let l : 128 * n < length f = omega arith in rw (t, lt-ltb (128 * n) (length f) l)
    go before (inr t) = rw t before

latest_entry_lem : (f : List ℕ) (p : ℤ) (none : List ℤ) → reads f ≡ true → latest_for (entries_of f) p none ≡ cond (nat_lt (latest_entry f p) (length f)) (words_at f (latest_entry f p) 13) none
unfolding entries_of latest_entry
latest_entry_lem f p none r = let w = reads_whole f r in latest-to f p none (length f / 128) (omega (arith, w.whole))

-- ════ what is shown
thirteen : (f : List ℕ) (at : ℕ) → words_at (take 128 (drop at f)) 0 13 ≡ words_at f at 13
thirteen f at = sym (words_take (take 128 (drop at f)) 0 13 3) ∙ ap (take 13) (words_part f at 16) ∙ words_take f at 13 3

module _ (night day : List ℕ) (p : ℤ) (place : int_le (pos 1) p && int_le p (pos 256) ≡ true) (rn : reads night ≡ true) (rd : reads day ≡ true) where
  abbrev entry : List ℤ
  entry = entry_in_force (entries_of night) (entries_of day) p

  entry_is : entry ≡ cond (nat_lt (latest_entry night p) (length night)) (words_at night (latest_entry night p) 13) (cond (nat_lt (latest_entry day p) (length day)) (words_at day (latest_entry day p) 13) [])
  entry_is =
      latest_entry_lem night p (latest_for (entries_of day) p []) rn
      ∙ ap (cond (nat_lt (latest_entry night p) (length night)) (words_at night (latest_entry night p) 13)) (latest_entry_lem day p [] rd)

  force_is : in_force night day p
      ≡ cond (nat_lt (latest_entry night p) (length night)) (Ok (InNight (latest_entry night p))) (cond (nat_lt (latest_entry day p) (length day)) (Ok (InDay (latest_entry day p))) (Err NoEntry))
  unfolding in_force force_in
  force_is = rw (place, rn, rd)

  -- the thirteen words of the part are those of the entry in force; 20 is refused where there is none
  pub in_force-shown : Shows night day (in_force night day p) entry
  unfolding shown
  in_force-shown = rw (force_is, entry_is) (go (true_or_false (nat_lt (latest_entry night p) (length night))) (true_or_false (nat_lt (latest_entry day p) (length day))))
    where
      go : (nat_lt (latest_entry night p) (length night) ≡ true) ⊎ (nat_lt (latest_entry night p) (length night) ≡ false)
          → (nat_lt (latest_entry day p) (length day) ≡ true) ⊎ (nat_lt (latest_entry day p) (length day) ≡ false)
          → Shows night day
          (cond (nat_lt (latest_entry night p) (length night)) (Ok (InNight (latest_entry night p))) (cond (nat_lt (latest_entry day p) (length day)) (Ok (InDay (latest_entry day p))) (Err NoEntry)))
          (cond (nat_lt (latest_entry night p) (length night)) (words_at night (latest_entry night p) 13) (cond (nat_lt (latest_entry day p) (length day)) (words_at day (latest_entry day p) 13) []))
      go (inl t) d = rw t (thirteen night (latest_entry night p))
      go (inr t) (inl d) = rw (t, d) (thirteen day (latest_entry day p))
      go (inr t) (inr d) = rw (t, d) (refl, refl)
