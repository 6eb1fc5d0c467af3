-- From the calls made and the check to what the table says of a case. Assumes nothing.
use Rattle.acceptance.specs.Judge.{Answer}
use Prim.Native.Nat.{ℕ, ◌≤◌}
use mathlib.Core.Path.{◌≡◌, sym, ap, ap₂, ◌∙◌}
use mathlib.Core.List.{List, ◌++◌, map}
use lib.ListN.{length, drop, length-map}
use lib.IntN.{ℤ, pos}
use Rattle.std.specs.Prelude.{Option}
use Rattle.network.specs.Stations.{network_of}
use Rattle.book.specs.declared.Book.{Book}
use Rattle.book.specs.declared.Call.{Call}
use Rattle.book.specs.Run.{length-answers}
use Rattle.book.specs.Rows.{row_next, row_says}
use Rattle.book.specs.Book.{opened_book, book_next, book_says}
use Rattle.checks.specs.Checks.{checked, has_room, sheet_after}
use Rattle.cases.specs.Table.{Case, station_list}
use Rattle.cases.specs.Cases.{rows_of, case_book, x_of, m_of, enough, CaseHolds, CallsMade, CaseRan}

-- as many answers as rows
answers_long : (c : Case) → CaseHolds c → length (rows_of c) ≡ length c.answers
answers_long c g =
    sym (length-answers (row_next book_next) (row_says book_says) (opened_book (network_of station_list)) (rows_of c))
    ∙ ap length g.answered
    ∙ length-map c.answers pos

module _ (c : Case) (g : CaseHolds c) (start : Book) (rows : List (Option Call)) (before after : List ℤ) (left : Book) (made : CallsMade start rows before after left)
    (opened : start ≡ opened_book (network_of station_list)) (same : rows ≡ rows_of c) where
  left_is : left ≡ case_book c
  left_is = made.left ∙ ap₂ (Rattle.book.specs.Run.final (row_next book_next)) opened same

  answered_is : after ≡ map pos c.answers ++ drop (length c.answers) before
  answered_is =
      made.answered
      ∙ ap₂ (λ (b : Book) (r : List (Option Call)). Rattle.book.specs.Run.answers (row_next book_next) (row_says book_says) b r ++ drop (length r) before) opened same
      ∙ ap₂ (λ (w : List ℤ) (n : ℕ). w ++ drop n before) g.answered (answers_long c g)

  pub ran : (x m lent words : List ℤ) (answer : Answer) → x ≡ x_of c → m ≡ m_of c → enough ≤ length lent
      → answer ≡ checked left x m (has_room left lent) → words ≡ sheet_after left x m lent → CaseRan c before after lent words answer
  ran x m lent words answer p q h a w =
      record {
        answered = answered_is;
        checked = rw (a, left_is, p, q) (g.check_sheet lent h);
        written = w ∙ rw (left_is, p, q) (g.written lent h);
      }
