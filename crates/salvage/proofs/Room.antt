-- The room that a salvage asks, and what it gives with it and without. Assumes nothing.
use mathlib.Core.Path.{◌≡◌, refl, sym, ap, ◌∙◌}
use mathlib.Core.Bool.{Bool, true, false, ◌&&◌}
use mathlib.Core.List.{List}
use Prim.Native.Nat.{ℕ, ◌*◌, ◌/◌, ◌≤◌}
use native.Mathlib.Omega.{arith}
use borrow.Author.Tests.{leb-true, le-leb}
use lib.Dec.{leb}
use lib.ListN.{length}
use Rattle.words.specs.Bools.{same_test}
use Rattle.words.specs.Runs.{put_words}
use Rattle.files.specs.Files.{file_words}
use Rattle.std.specs.Prelude.{Result, Ok, Err}
use Rattle.files.specs.declared.FileRefusal.{FileRefusal}
use Rattle.files.specs.declared.FileRefusal.TheVariants.{NoRoom}
use Rattle.salvage.specs.declared.SalvageCounts.{SalvageCounts}
use Rattle.salvage.specs.Salvage.{kept_starts, kept_entries, skipped_runs, kept_pairs, pair_words, salvage_counts, room_for, salvage_answer, fresh_left, skipped_left, kept_left}

by_quotient : (d k n : ℕ) → (k ≤ n / d → d * k ≤ n) → (d * k ≤ n → k ≤ n / d) → leb k (n / d) ≡ leb (d * k) n
by_quotient d k n up down = same_test _ _ (λ e. le-leb (d * k) n (up (leb-true k (n / d) e))) (λ e. le-leb k (n / d) (down (leb-true (d * k) n e)))

-- the test by quotients
pub room_test : (n : SalvageCounts) (fresh skipped kept : ℕ) → leb n.kept (fresh / 128) && leb n.skipped (skipped / 16) && leb n.kept (kept / 16) ≡ room_for n fresh skipped kept
unfolding room_for
room_test n fresh skipped kept =
    let a = by_quotient 128 n.kept fresh (λ h. omega arith) (λ h. omega arith) in
    let b = by_quotient 16 n.skipped skipped (λ h. omega arith) (λ h. omega arith) in
    let c = by_quotient 16 n.kept kept (λ h. omega arith) (λ h. omega arith) in
    (λ i. a i && b i && c i)

-- the counts n that the code has are those of f
module _ (f fresh skipped kept : List ℕ) {n : SalvageCounts} {t : Bool} (counts : n ≡ salvage_counts f) (tested : t ≡ room_for n (length fresh) (length skipped) (length kept)) where
  pub room-is : room_for (salvage_counts f) (length fresh) (length skipped) (length kept) ≡ t
  room-is = sym (tested ∙ ap (λ (m : SalvageCounts). room_for m (length fresh) (length skipped) (length kept)) counts)

  -- an answer, and the lent bytes afterwards
  abbrev SalvageGives : Result SalvageCounts FileRefusal → List ℕ → List ℕ → List ℕ → Type 0
  SalvageGives r fresh' skipped' kept' =
      (r ≡ salvage_answer f (length fresh) (length skipped) (length kept)) × (fresh' ≡ fresh_left r f fresh) × (skipped' ≡ skipped_left r f skipped) × (kept' ≡ kept_left r f kept)

  pub gives-no_room : t ≡ false → SalvageGives (Err NoRoom) fresh skipped kept
  unfolding salvage_answer fresh_left skipped_left kept_left
  gives-no_room e = (rw (room-is ∙ e), refl, refl, refl)

  pub gives_all : {fresh' skipped' kept' : List ℕ} → t ≡ true
      → fresh' ≡ put_words fresh 0 (file_words 0 (kept_entries f)) → skipped' ≡ put_words skipped 0 (pair_words (skipped_runs f)) → kept' ≡ put_words kept 0 (pair_words (kept_pairs 0 (kept_starts f)))
      → SalvageGives (Ok n) fresh' skipped' kept'
  unfolding salvage_answer fresh_left skipped_left kept_left
  gives_all e a b c = (rw (room-is ∙ e) (ap Ok counts), a, b, c)
