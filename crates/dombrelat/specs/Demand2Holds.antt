-- Demand 2 over bytes holds: the C calls answer as the check of the book and the words that the bytes hold. Assumes nothing.
use Rattle.std.specs.Prelude.{ℕ, ◌+◌, ◌*◌, ◌≤◌, ◌≡◌, Bool, false, ◌&&◌, ℤ, pos, Ok, Err}
use Rattle.std.proofs.Math.Path.{refl, ap}
use Rattle.std.proofs.Common.{sym, ◌∙◌, inr, arith}
use Rattle.std.proofs.Math.Bool.{true}
use mathlib.Core.List.{List}
use Rattle.std.proofs.Math.ListN.{get_or}
use Rattle.std.proofs.Math.IntN.{nat_abs}
use Rattle.words.specs.Runs.{put_words}
use Rattle.words.specs.RunLaws.{run_out}
use Rattle.acceptance.specs.Judge.{refusal_unknown, answer_number, answer_unknown, Answer}
use Rattle.acceptance.specs.JudgeLaws.{refusal-least, number_most_lem}
use Rattle.sheet.specs.Sheet.{sheet_words, room}
use Rattle.sheet.specs.SheetLaws.{sheet_length}
use Rattle.checks.specs.Demand2Holds.{demand_2 as demand-2-of-words}
use Rattle.lent_checks.specs.LentChecks.{all_words, is_whole, answer_word, checked_lent, sheet_fits, on_accepted}
use Rattle.layout.specs.Bytes.{book_of, bytes_fit}
use Rattle.layout.specs.CodecLaws.{fits-tested}
use Rattle.dombrelat.specs.CheckCalls.{judged_lent, check_call, sheet_call}
use Rattle.dombrelat.specs.CheckCalls as calls
use Rattle.dombrelat.specs.Demand2.{AsDemanded, Demand, Unfit, Demand2}

module _ (s x m : List ℕ) where
  -- ════ bytes that hold a book
  module _ (e : bytes_fit s ≡ true) where
    answers : (fits : Bool) (r : ℤ) → r ≡ answer_word (checked_lent (book_of s) x m fits) → AsDemanded (book_of s) x m fits r
    unfolding answer_word checked_lent
    answers fits r q =
        let a = checked_lent (book_of s) x m fits in
        record {
          number = answer_number a;
          unknown = answer_unknown a;
          below = omega (arith, number_most_lem a);
          word = q;
          judged = (demand-2-of-words (book_of s) (fits-tested s e) (all_words x) (all_words m)).0 (is_whole x && is_whole m && fits);
        }

    call_is : check_call s x m ≡ answer_word (checked_lent (book_of s) x m true)
    unfolding check_call
    call_is = rw e

    module _ (sheet : List ℕ) where
      a : Answer
      a = checked_lent (book_of s) x m (sheet_fits (book_of s) sheet)

      sheet_is : sheet_call s x m sheet ≡ judged_lent a (book_of s) x m sheet
      unfolding sheet_call a
      sheet_is = rw e

      words : List ℤ
      words = sheet_words (book_of s).network (book_of s).places (all_words x) (all_words m)

      -- by the answer
      written_by : (a : Answer) → answer_word a ≡ pos 0 → on_accepted a (put_words sheet 0 words) sheet ≡ put_words sheet 0 words
      unfolding answer_word on_accepted
      written_by (Ok u) z = refl
      written_by (Err r) z = absurd (let q : answer_number (Err r) + 256 * refusal_unknown r ≡ 0 = ap nat_abs z in omega (arith, refusal-least r))

      beyond_by : (a : Answer) (j : ℕ) → 8 * room (book_of s).network (book_of s).places ≤ j → get_or (on_accepted a (put_words sheet 0 words) sheet) j 0 ≡ get_or sheet j 0
      unfolding on_accepted words
      beyond_by (Ok u) j h = run_out sheet 0 words j (inr (omega (arith, sheet_length (book_of s).network (book_of s).places (all_words x) (all_words m))))
      beyond_by (Err r) j h = refl

      kept_by : (a : Answer) → (answer_word a ≡ pos 0 → ⊥) → on_accepted a (put_words sheet 0 words) sheet ≡ sheet
      unfolding answer_word on_accepted
      kept_by (Ok u) h = absurd (h refl)
      kept_by (Err r) h = refl

      demand : Demand s x m sheet
      unfolding words a
      demand =
          let said : (sheet_call s x m sheet).answer ≡ answer_word a = ap (λ (j : calls.Judged). j.answer) sheet_is in
          let left : (sheet_call s x m sheet).sheet ≡ on_accepted a (put_words sheet 0 words) sheet = ap (λ (j : calls.Judged). j.sheet) sheet_is in
          record {
            checked = answers true (check_call s x m) call_is;
            sheet_checked = answers (sheet_fits (book_of s) sheet) (sheet_call s x m sheet).answer said;
            written = λ z. left ∙ written_by a (sym said ∙ z);
            beyond = λ j h. ap (λ (l : List ℕ). get_or l j 0) left ∙ beyond_by a j h;
            kept = λ h. left ∙ kept_by a (λ z. h (said ∙ z));
          }

  -- ════ bytes that hold none
  unfit : bytes_fit s ≡ false → (sheet : List ℕ) → Unfit s x m sheet
  unfolding check_call sheet_call
  unfit e sheet = record { checked = rw e; sheet_checked = rw e; kept = rw e }

pub demand_2 : Demand2
demand_2 s x m sheet = ((λ e. demand s x m e sheet), (λ e. unfit s x m e sheet))
