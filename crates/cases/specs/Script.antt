-- The calls of the cases by numbers. Assumes nothing.
use Rattle.std.specs.Prelude.{ℕ, ◌+◌, ◌≤◌, ◌<◌, ◌≡◌, ◌&&◌, List, [], ◌∷◌, map, length, ℤ, pos, Option, Some}
use Rattle.std.proofs.Math.Path.{refl}
use Rattle.std.proofs.Common.{sym, ap, ◌∙◌, arith}
use Rattle.std.proofs.Math.Bool.{true}
use borrow.Author.Tests.{leb-true}
use Rattle.std.proofs.Math.Dec.{leb}
use Rattle.std.proofs.Math.ListN.{get_or, get_or-map}
use Rattle.words.specs.Bools.{and_left, and_right}
use Rattle.lists.specs.All.{all_below, all_at}
use Rattle.integers.specs.Tables.{tabulate, length-tabulate, get_d_tabulate}
use Rattle.book.specs.declared.Change.TheVariants.{Enter}
use Rattle.book.specs.declared.Call.{Call}
use Rattle.book.specs.declared.Call.TheVariants.{Edit, Undo}
use Rattle.cases.specs.Table.{Case, level, baseline_with, table}
use Rattle.cases.specs.Cases.{rows_of, first_case, case_at}

unfoldable pub calls : List Call
calls =
    Edit (pos 1) (Enter (level 1000))
    ∷ Edit (pos 2) (Enter (level 1100))
    ∷ Edit (pos 2) (Enter (level 1200))
    ∷ Undo
    ∷ Edit (pos 2) (Enter (level 1276))
    ∷ Edit (pos 2) (Enter (level 1278))
    ∷ Edit (pos 3) (Enter (level 101000))
    ∷ Edit (pos 3) (Enter (level 101001))
    ∷ Edit (pos 3) (Enter (baseline_with 100))
    ∷ []

-- the last, and for numbers beyond it
abbrev pub call_at : ℕ → Call
call_at c = get_or calls c (Edit (pos 3) (Enter (baseline_with 99)))

-- calls named by their numbers, as rows of a run
abbrev pub rows_named : List ℕ → List (Option Call)
rows_named numbers = map (λ c. Some (call_at c)) numbers

-- the numbers of the cases' calls, and where those of each case start and how many there are
unfoldable pub call_numbers : List ℕ
call_numbers = 0 ∷ 1 ∷ 2 ∷ 3 ∷ 0 ∷ 4 ∷ 0 ∷ 5 ∷ 0 ∷ 1 ∷ 6 ∷ 0 ∷ 1 ∷ 7 ∷ 0 ∷ 1 ∷ 8 ∷ 0 ∷ 1 ∷ 9 ∷ []

unfoldable pub call_starts : List ℕ
call_starts = 0 ∷ 0 ∷ 0 ∷ 0 ∷ 0 ∷ 0 ∷ 0 ∷ 3 ∷ 4 ∷ 6 ∷ 8 ∷ 11 ∷ 14 ∷ 17 ∷ []

unfoldable pub call_counts : List ℕ
call_counts = 2 ∷ 2 ∷ 2 ∷ 0 ∷ 3 ∷ 3 ∷ 4 ∷ 1 ∷ 2 ∷ 2 ∷ 3 ∷ 3 ∷ 3 ∷ 3 ∷ []

-- `count` calls from `start` on
unfoldable pub rows_from : ℕ → ℕ → List (Option Call)
rows_from start count = tabulate count (λ i. Some (call_at (get_or call_numbers (start + i) 0)))

-- X and M of each case
unfoldable pub xs : List ℤ
xs =
    pos 50 ∷ pos 51 ∷ pos 50 ∷ pos 50 ∷ pos 50 ∷ pos 100 ∷ pos 50 ∷ pos 50 ∷ pos 138 ∷ pos 139 ∷ pos 33367 ∷ pos 50 ∷ pos 50 ∷ pos 33
    ∷ []

abbrev pub m2 : ℤ
m2 = pos 5368709

abbrev pub m3 : ℤ
m3 = pos 3579139

unfoldable pub ms : List ℤ
ms = m2 ∷ m2 ∷ pos 0 ∷ m2 ∷ m2 ∷ m2 ∷ m2 ∷ m2 ∷ m2 ∷ m2 ∷ m3 ∷ m2 ∷ m2 ∷ m3 ∷ []

-- ════ they are those of the table
pub table-length : length table ≡ 14
unfolding table
table-length = refl

module _ (k : ℕ) (h : k < 14) where
  -- what is given by the number is the case's where it is so throughout the table
  at_case : {A : Type 0} (f : ℕ → A) (g : Case → A) → tabulate 14 f ≡ map g table → f k ≡ g (case_at k)
  at_case {A} f g e = sym (get_d_tabulate 14 f k (g first_case) h) ∙ ap (λ (l : List A). get_or l k (g first_case)) e ∙ get_or-map g table k first_case

  -- the same of a table of any kind, whatever lies beyond its end
  pub of_case : {A B : Type 0} (f : B → A) (g : Case → A) (rows : List B) (d : B) → tabulate 14 (λ j. f (get_or rows j d)) ≡ map g table → f (get_or rows k d) ≡ g (case_at k)
  of_case f g rows d e = at_case (λ j. f (get_or rows j d)) g e

  pub rows_are : rows_from (get_or call_starts k 0) (get_or call_counts k 0) ≡ rows_of (case_at k)
  unfolding table tabulate rows_from calls call_numbers call_starts call_counts
  rows_are = at_case (λ j. rows_from (get_or call_starts j 0) (get_or call_counts j 0)) rows_of refl

  pub x_is : get_or xs k (pos 0) ≡ (case_at k).x
  unfolding table tabulate xs
  x_is = at_case (λ j. get_or xs j (pos 0)) (λ c. c.x) refl

  pub m-is : get_or ms k (pos 0) ≡ (case_at k).m
  unfolding table tabulate ms
  m-is = at_case (λ j. get_or ms j (pos 0)) (λ c. c.m) refl

  -- no case has more than four calls, and all calls are listed
  pub few_calls : (get_or call_starts k 0 + get_or call_counts k 0 ≤ 20) × (get_or call_counts k 0 ≤ 4)
  unfolding all_below call_starts call_counts
  few_calls =
      let e : leb (get_or call_starts k 0 + get_or call_counts k 0) 20 && leb (get_or call_counts k 0) 4 ≡ true = all_at 14 (λ j. leb (get_or call_starts j 0 + get_or call_counts j 0) 20 && leb (get_or call_counts j 0) 4) k refl h in
      (leb-true _ _ (and_left _ _ e), leb-true _ _ (and_right (leb (get_or call_starts k 0 + get_or call_counts k 0) 20) _ e))

  pub rows_few : length (rows_of (case_at k)) ≤ 4
  unfolding rows_from
  rows_few =
      let few : get_or call_counts k 0 ≤ 4 = few_calls.1 in
      let long : length (rows_from (get_or call_starts k 0) (get_or call_counts k 0)) ≡ get_or call_counts k 0 = length-tabulate (get_or call_counts k 0) _ in
      let same = ap length rows_are in
      omega (arith, few, long, same)
