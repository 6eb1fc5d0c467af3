-- Lent slices of a size that fits, and what is delivered. Assumes nothing.
use Rattle.std.specs.Prelude.{Ok, Err, is_ok, false}
use Prim.Native.Nat.{ℕ, ◌*◌, ◌-◌, ◌/◌, ◌%◌, ◌≤◌}
use mathlib.Core.Path.{◌≡◌, refl, ap, ◌∙◌}
use mathlib.Core.Bool.{Bool, true, ◌&&◌}
use mathlib.Core.List.{List, ◌++◌}
use native.Mathlib.Nat.{sub-zero}
use native.Mathlib.Omega.{arith}
use borrow.Author.Tests.{leb-true}
use lib.Dec.{leb, eqb}
use lib.ListN.{length, take, length-append}
use lib.Seq.{take_at, length-take-le}
use lib.IntN.{ℤ}
use Rattle.words.specs.Bools.{clash, and_left, and_right}
use Rattle.words.specs.Runs.{words_at}
use Rattle.words.specs.RunLaws.{length_words}
use Rattle.acceptance.specs.Judge.{Answer}
use Rattle.book.specs.declared.Book.{Book}
use Rattle.sheet.specs.Sheet.{room}
use Rattle.lent_checks.specs.LentChecks.{is_whole, x_bytes, m_bytes, sizes_fit, on_accepted, sheet_fits}

-- ════ lent slices
pub lengths_fit_lem : (x m : List ℕ) → sizes_fit x m ≡ true → (length x ≤ x_bytes) × (length m ≤ m_bytes)
lengths_fit_lem x m e =
    let three = and_left (is_whole x && is_whole m && leb (length x) x_bytes) (leb (length m) m_bytes) e in
    (leb-true _ _ (and_right (is_whole x && is_whole m) (leb (length x) x_bytes) three), leb-true _ _ (and_right (is_whole x && is_whole m && leb (length x) x_bytes) (leb (length m) m_bytes) e))

-- ════ what is delivered
module _ (new old : List ℕ) where
  pub delivered : (a : Answer) → is_ok a ≡ true → new ≡ on_accepted a new old
  unfolding on_accepted
  delivered (Ok u) e = refl
  delivered (Err refusal) e = clash e refl

  pub withheld : (a : Answer) → is_ok a ≡ false → old ≡ on_accepted a new old
  unfolding on_accepted
  withheld (Ok u) e = clash refl e
  withheld (Err refusal) e = refl

-- the sheet's test, of the number n of words that it takes
pub sheet_test : (b : Book) (o : List ℕ) (n : ℕ) (t : Bool) → n ≡ room b.network b.places → t ≡ (eqb (length o % 8) 0 && leb n (length o / 8)) → t ≡ sheet_fits b o
sheet_test b o n t p q = q ∙ ap (λ (k : ℕ). eqb (length o % 8) 0 && leb k (length o / 8)) p

pub sheet_long : (o : List ℕ) (n : ℕ) → eqb (length o % 8) 0 && leb n (length o / 8) ≡ true → 8 * n ≤ length o
sheet_long o n e = let h : n ≤ length o / 8 = leb-true _ _ (and_right (eqb (length o % 8) 0) (leb n (length o / 8)) e) in omega arith

-- ════ words read into the front of a longer list w: l is that front afterwards
pub read_front : (s : List ℕ) (n : ℕ) (w l rest : List ℤ) → n ≤ length w → l ≡ words_at s 0 (length (take n w)) → take n (l ++ rest) ≡ words_at s 0 n
read_front s n w l rest room e =
    let is : l ≡ words_at s 0 n = e ∙ ap (words_at s 0) (length-take-le n w room) in
    take_at l rest n (ap length is ∙ length_words s 0 n) ∙ is

-- the front of a list, as it was put there
pub front_kept : (n : ℕ) (l rest : List ℤ) → length l ≡ n → take (n - 0) (l ++ rest) ≡ l
front_kept n l rest e = ap (λ (k : ℕ). take k (l ++ rest)) (sub-zero n) ∙ take_at l rest n e

pub front_fits : (n : ℕ) (l rest : List ℤ) → length l ≡ n → n ≤ length (l ++ rest)
front_fits n l rest e = rw length-append (omega arith)
