-- Lengths that fit a proposal, and a pair written to lent bytes, which is checked as it stands. Assumes nothing.
use Rattle.std.specs.Prelude.{Ok}
use Prim.Native.Nat.{ℕ, ◌+◌, ◌*◌, ◌/◌, ◌%◌, ◌≤◌}
use mathlib.Core.Path.{◌≡◌, refl, sym, ap, ap₂, ◌∙◌}
use mathlib.Core.Bool.{Bool, true, false, ◌&&◌}
use mathlib.Core.List.{List}
use native.Mathlib.Nat.{mul-le-mul}
use native.Mathlib.Omega.{arith}
use borrow.Author.Tests.{eq-eqb, eqb-true}
use lib.Dec.{eqb}
use lib.ListN.{length, get_or}
use lib.IntN.{ℤ, pos}
use mir.Syntax.{w64}
use mir.Val.{SFits}
use Rattle.words.specs.Bools.{clash, and_left, and_right, and_both}
use Rattle.words.specs.Runs.{words_at, put_words}
use Rattle.words.specs.RunLaws.{length_words, length_run, run_back}
use Rattle.network.specs.Stations.{unknown_count}
use Rattle.acceptance.specs.Tests.{lengths_fit}
use Rattle.acceptance.specs.JudgeLaws.{lengths_of}
use Rattle.acceptance.specs.Exactly.{answer}
use Rattle.book.specs.declared.Book.{Book}
use Rattle.book.specs.Sound.{SoundParts, parts-sound}
use Rattle.checks.specs.Checks.{checked}
use Rattle.checks.specs.CheckLaws.{checked-is, solved, inverse}
use Rattle.lists.specs.Stored.{fits_by}
use Rattle.lent_checks.specs.LentChecks.{all_words, is_whole, x_bytes, m_bytes, checked_lent}
use Rattle.lent_checks.specs.Offers.{Offers, OffersLent, lent_lengths}

-- words that fill a slice of bytes are read back, and are whole
module _ (s : List ℕ) (ws : List ℤ) (long : 8 * length ws ≡ length s) where
  filled : length (put_words s 0 ws) ≡ 8 * length ws
  filled = let e = length_run s 0 ws in omega arith

  pub filled-whole : is_whole (put_words s 0 ws) ≡ true
  filled-whole = eq-eqb (length (put_words s 0 ws) % 8) 0 (let e = filled in omega arith)

  pub filled-back : ((i : ℕ) → SFits w64 (get_or ws i (pos 0))) → all_words (put_words s 0 ws) ≡ ws
  filled-back fits =
      let n : length (put_words s 0 ws) / 8 ≡ length ws = let e = filled in omega arith in
      ap (words_at (put_words s 0 ws) 0) n ∙ run_back s 0 ws (let h : 0 + 8 * length ws ≤ length s = omega arith in h) fits

module _ (b : Book) (o : SoundParts b) (x m : List ℕ) (xs ms : List ℤ) (lx : 8 * length xs ≡ length x) (lm : 8 * length ms ≡ length m) where
  pub made : answer b.network b.places xs ms true ≡ Ok tt → checked_lent b (put_words x 0 xs) (put_words m 0 ms) true ≡ Ok tt
  unfolding checked_lent
  made e =
      let fx : (i : ℕ) → SFits w64 (get_or xs i (pos 0)) = λ i. fits_by (get_or xs i (pos 0)) ((solved b (parts-sound b o) xs ms true e).moved.corrections.bound i) tt in
      let fm : (i : ℕ) → SFits w64 (get_or ms i (pos 0)) = λ i. fits_by (get_or ms i (pos 0)) ((inverse b (parts-sound b o) xs ms true e).bound i) tt in
      ap (λ (t : Bool). checked b (all_words (put_words x 0 xs)) (all_words (put_words m 0 ms)) (t && true)) (and_both _ _ (filled-whole x xs lx) (filled-whole m ms lm))
      ∙ ap₂ (λ (y z : List ℤ). checked b y z true) (filled-back x xs lx fx) (filled-back m ms lm fm)
      ∙ checked-is b (parts-sound b o) xs ms true ∙ e

-- ════ lengths: whole words, k and k·k of them
and_nested : (a b c : Bool) → a && b && c ≡ a && (b && c)
and_nested true b c = refl
and_nested false b c = refl

module _ (k : ℕ) (x m : List ℕ) where
  pub lengths_test : (eqb (length x / 8) k && eqb (length m / 8) (k * k) && eqb (length x % 8) 0 && eqb (length m % 8) 0) ≡ lent_lengths k x m
  unfolding lengths_fit
  lengths_test = rw (length_words x 0 (length x / 8), length_words m 0 (length m / 8)) (and_nested (eqb (length x / 8) k && eqb (length m / 8) (k * k)) (is_whole x) (is_whole m))

  pub lengths_are : lent_lengths k x m ≡ true → (length x ≡ 8 * k) × (length m ≡ 8 * (k * k))
  unfolding lengths_fit
  lengths_are e =
      let long = lengths_of k (all_words x) (all_words m) (is_whole x && is_whole m) e in
      let whole : is_whole x && is_whole m ≡ true = and_right (eqb (length (all_words x)) k && eqb (length (all_words m)) (k * k)) _ e in
      let wx : length x % 8 ≡ 0 = eqb-true _ _ (and_left (is_whole x) (is_whole m) whole) in
      let wm : length m % 8 ≡ 0 = eqb-true _ _ (and_right (is_whole x) (is_whole m) whole) in
      (omega (arith, length_words x 0 (length x / 8), long.0), omega (arith, length_words m 0 (length m / 8), long.1))

  pub lengths_most : k ≤ 48 → lent_lengths k x m ≡ true → (length x ≤ x_bytes) × (length m ≤ m_bytes)
  lengths_most few e =
      let long = lengths_are e in
      let square = mul-le-mul few few in
      (omega arith, omega arith)

  module _ (b : Book) (is : k ≡ unknown_count b.network.stations) where
    pub offers_none : lent_lengths k x m ≡ false → OffersLent b (pos 10) x m x m
    offers_none e = record { unfit = λ f. (refl, refl, refl); fit = λ f. clash f (ap (λ (i : ℕ). lent_lengths i x m) (sym is) ∙ e) }

    pub offers_some : (r : ℤ) (x' m' : List ℕ) → lent_lengths k x m ≡ true → Offers b r x m x' m' → OffersLent b r x m x' m'
    offers_some r x' m' e o = record { unfit = λ f. clash e (ap (λ (i : ℕ). lent_lengths i x m) is ∙ f); fit = λ f. o }
