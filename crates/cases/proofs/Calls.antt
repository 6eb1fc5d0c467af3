-- The book's calls one after the other. Assumes nothing.
use Prim.Native.Nat.{ℕ, zero, suc, ◌+◌, ◌≤◌, ◌<◌}
use mathlib.Core.Path.{◌≡◌, refl, sym, ap, ◌∙◌}
use mathlib.Core.Bool.{Bool, true, cond}
use mathlib.Core.List.{List, [], ◌∷◌}
use native.Mathlib.Numerals.{add-one}
use Rattle.std.proofs.Common.{arith, le_of_suc-le-suc, not-suc-le-zero}
use lib.ListN.{length, take, get_or}
use lib.IntN.{ℤ, pos}
use Rattle.std.specs.Prelude.{Option, Some, None, Result, Ok, Err}
use Rattle.network.specs.Stations.{network_of, opens}
use Rattle.book.specs.declared.Book.{Book}
use Rattle.book.specs.declared.Refusal.{Refusal}
use Rattle.book.specs.Outcome.{Outcome}
use Rattle.book.specs.Outcomes.{opened_as}
use Rattle.book.specs.Refusals.{refused-number}
use Rattle.book.specs.Run.{final, answers, final-suc, answer_at}
use Rattle.book.specs.declared.Call.{Call}
use Rattle.book.specs.Rows.{row_next, row_says}
use Rattle.book.specs.Book.{opened_book, opening, outcome, book_says, book_next, sound}
use Rattle.cases.specs.Script.{call_at, rows_named}

-- ════ an opening that is not refused
pub opened_book_lem : (list : List ℤ) (e : Outcome) → e ≡ opening list → opens list ≡ true → e.book ≡ opened_book (network_of list)
opened_book_lem list e o t =
    ap (λ (x : Outcome). x.book) o
    ∙ ap (λ (b : Bool). (cond {A = Outcome} b (record { refusal = 0; book = opened_book (network_of list) }) (record { refusal = 1; book = opened_book (network_of []) })).book) t

pub opened-is : (list : List ℤ) (r : Result Book Refusal) → opened_as r ≡ opening list → opens list ≡ true → r ≡ Ok (opened_book (network_of list))
opened-is list (Ok b) o t = ap Ok (opened_book_lem list (opened_as (Ok b)) o t)
opened-is list (Err x) o t =
    absurd (refused-number x (
    ap (λ (e : Outcome). e.refusal) o
    ∙ ap (λ (b : Bool). (cond {A = Outcome} b (record { refusal = 0; book = opened_book (network_of list) }) (record { refusal = 1; book = opened_book (network_of []) })).refusal) t))

-- a number that is at least k and is not k
pub above : (k c : ℕ) → k ≤ c → (c ≡ k → ⊥) → suc k ≤ c
above k c h n = omega (arith, n)

-- ════ the rows of calls by their numbers
pub row_at : (numbers : List ℕ) (i : ℕ) → i < length numbers → get_or (rows_named numbers) i None ≡ Some (call_at (get_or numbers i 0))
row_at [] i h = absurd (not-suc-le-zero h)
row_at (n ∷ ns) zero h = refl
row_at (n ∷ ns) (suc i) h = row_at ns i (le_of_suc-le-suc h)

-- ════ one row more, where the state t is that after the first k
abbrev pub after : Book → List (Option Call) → Book
after b rows = final (row_next book_next) b rows

abbrev pub said : Book → List (Option Call) → ℕ → ℤ
said b rows k = get_or (answers (row_next book_next) (row_says book_says) b rows) k (pos 0)

module _ (b : Book) (rows : List (Option Call)) (k : ℕ) (h : k < length rows) (c : Call) (row : get_or rows k None ≡ Some c) (t : Book) (at : t ≡ after b (take k rows))
    (e : Outcome) (w : (e ≡ outcome t c) × (sound e.book ≡ true)) where
  pub turn-says : pos e.refusal ≡ said b rows k
  unfolding row_says
  turn-says =
      ap (λ (x : Outcome). pos x.refusal) w.0
      ∙ ap (λ (s : Book). pos (book_says s c)) at
      ∙ ap (row_says book_says (after b (take k rows))) (sym row)
      ∙ sym (answer_at (row_next book_next) (row_says book_says) b rows k (pos 0) None h)

  pub turn-next : e.book ≡ after b (take (k + 1) rows)
  unfolding row_next
  turn-next =
      ap (λ (x : Outcome). x.book) w.0
      ∙ ap (λ (s : Book). book_next s c) at
      ∙ ap (row_next book_next (after b (take k rows))) (sym row)
      ∙ sym (ap (λ (j : ℕ). after b (take j rows)) (add-one k) ∙ final-suc (row_next book_next) b rows k None h)
