-- Document 02, request 4, over bytes: where the call that enters a record is answered 0, the same call with the record taken to the marks is (of a baseline with antenna heights the one
-- with heights 0 whose observed U difference is the reduced one), and afterwards N and u kept, every check and every sheet are the same. Over books: checks, specs/EnterAtMarks.antt.
-- Assumes nothing.
use Rattle.std.specs.Prelude.{ℕ, ◌≡◌, Bool, true, List, ℤ, pos}
use Rattle.std.proofs.Math.Path.{sym}
use Rattle.std.proofs.Common.{ap, ◌∙◌}
use Rattle.network.specs.AtMarks.{at_marks}
use Rattle.network.specs.declared.Record.{Record}
use Rattle.book.specs.declared.Change.TheVariants.{Enter}
use Rattle.book.specs.declared.Call.TheVariants.{Edit}
use Rattle.book.specs.Sound.{sound-parts}
use Rattle.layout.specs.Bytes.{book_of, bytes_fit}
use Rattle.layout.specs.CodecLaws.{read_sized, fits-tested}
use Rattle.checks.specs.AtMarks.{SameSheets}
use Rattle.checks.specs.EnterAtMarks.{enter_at_marks}
use Rattle.lent_checks.specs.LentChecks.{all_words, checked_lent}
use Rattle.dombrelat.specs.CheckCalls.{check_call, sheet_call}
use Rattle.dombrelat.specs.Calls.{bytes_next, bytes_says}
use Rattle.dombrelat.specs.Demand3Holds.{says_same, says-fits, holds_own, edited-next}

-- ════ the statement
pub record SameAnswers (s t : List ℕ) : Type 0 where
  pub normals : (book_of s).normals ≡ (book_of t).normals
  pub checks : (x m : List ℕ) → check_call s x m ≡ check_call t x m
  pub sheets : (x m sheet : List ℕ) → sheet_call s x m sheet ≡ sheet_call t x m sheet

abbrev pub AtMarks : Type 0
AtMarks =
    (s : List ℕ) (p : ℤ) (r : Record) → bytes_says s (Edit p (Enter r)) ≡ pos 0
    → (bytes_says s (Edit p (Enter (at_marks r))) ≡ pos 0) × SameAnswers (bytes_next s (Edit p (Enter r))) (bytes_next s (Edit p (Enter (at_marks r))))

-- ════ two books in bytes that have the same sheets
module _ (s t : List ℕ) (f : bytes_fit s ≡ true) (g : bytes_fit t ≡ true) (same : SameSheets (book_of s) (book_of t)) where
  same-checked : (x m : List ℕ) (fits : Bool) → checked_lent (book_of s) x m fits ≡ checked_lent (book_of t) x m fits
  unfolding checked_lent
  same-checked x m fits = same.answers (all_words x) (all_words m) _

  same-answers : SameAnswers s t
  unfolding check_call sheet_call
  same-answers =
      record {
        normals = (sound-parts (book_of s) (read_sized s) (fits-tested s f)).normals ∙ same.normals ∙ sym (sound-parts (book_of t) (read_sized t) (fits-tested t g)).normals;
        checks = λ x m. rw (f, g, same-checked x m true);
        sheets = λ x m sheet. rw (f, g, same.rooms, same.words (all_words x) (all_words m), same-checked x m);
      }

pub at_marks_lem : AtMarks
at_marks_lem s p r a =
    let b = book_of s in
    let entered = edited-next s (Edit p (Enter r)) a in
    let w = enter_at_marks b (read_sized s) p r entered.says in
    let own = holds_own s (says-fits s (Edit p (Enter r)) a) in
    let said : bytes_says s (Edit p (Enter (at_marks r))) ≡ pos 0 = says_same s s b (Edit p (Enter (at_marks r))) own ∙ ap pos w.0 in
    let marked = edited-next s (Edit p (Enter (at_marks r))) said in
    (said, same-answers _ _ entered.fits marked.fits (rw (entered.reads, marked.reads) w.1))
