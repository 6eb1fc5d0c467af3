-- Laws of reports: the cases of a check, and of a proposal. Assumes nothing.
use Rattle.std.specs.Prelude.{ℕ, ◌≤◌, ◌≡◌, true, length, ℤ, Ok, Err}
use Rattle.std.proofs.Common.{refl, sym, ◌∙◌, arith, le-leb}
use Rattle.std.proofs.Math.Path.{ap}
use mathlib.Core.List.{List, ◌++◌, append-nil}
use Rattle.std.proofs.Math.ListN.{drop}
use Rattle.std.proofs.Math.Seq.{drop-length}
use Rattle.acceptance.specs.Judge.{Answer, refusal_number, refusal_unknown}
use Rattle.acceptance.specs.declared.Refusal.{Refusal}
use Rattle.acceptance.specs.declared.Refusal.TheVariants.{Lengths, Untied, Correction, Inverse, Defect, Residual, Refinement, TooLarge}
use Rattle.book.specs.declared.Book.{Book}
use Rattle.sheet.specs.Sheet.{room, sheet_words}
use Rattle.checks.specs.Checks.{checked, has_room, on_acceptance, sheet_after}
use Rattle.printing.specs.Messages.{refused_text, refused_unknown_text}
use Rattle.printing.specs.SheetText.{sheet_text}
use Rattle.printing.specs.Reports.{refusal_says, answer_says, check_says, pair, offer_says}

-- ════ a refusal: 11 has its unknown printed too
pub untied_says : (refusal : Refusal) (unknown : ℕ) → refusal ≡ Untied unknown → refused_unknown_text unknown ≡ refusal_says (refusal_number refusal) (refusal_unknown refusal)
unfolding refusal_says
untied_says refusal unknown e = rw e

pub other_says : (refusal : Refusal) (number : ℕ) → number ≡ refusal_number refusal → ((unknown : ℕ) → refusal ≡ Untied unknown → ⊥)
    → refused_text number ≡ refusal_says (refusal_number refusal) (refusal_unknown refusal)
unfolding refusal_says
other_says Lengths number e other = rw e
other_says (Untied unknown) number e other = absurd (other unknown refl)
other_says Correction number e other = rw e
other_says Inverse number e other = rw e
other_says Defect number e other = rw e
other_says Residual number e other = rw e
other_says Refinement number e other = rw e
other_says TooLarge number e other = rw e

-- ════ a check with a sheet of just the words it takes: w are the words before, r the answer
module _ (b : Book) (x m w : List ℤ) (long : length w ≡ room b.network b.places) (r : Answer) (is : r ≡ checked b x m (has_room b w)) where
  answered : checked b x m true ≡ r
  answered =
      let h : has_room b w ≡ true = le-leb _ _ (let k : room b.network b.places ≤ length w = omega arith in k) in
      sym (is ∙ ap (checked b x m) h)

  pub words_are : r ≡ Ok tt → sheet_after b x m w ≡ sheet_words b.network b.places x m
  unfolding sheet_after on_acceptance
  words_are e =
      let s = sheet_words b.network b.places x m in
      rw (← is, e) (ap (λ (n : ℕ). s ++ drop n w) (sym long) ∙ ap (λ (l : List ℤ). s ++ l) (drop-length w) ∙ append-nil s)

  pub says_sheet : (v : List ℤ) → r ≡ Ok tt → v ≡ sheet_after b x m w → sheet_text v b.network.count b.places ≡ check_says b x m
  unfolding check_says answer_says
  says_sheet v e q = rw (answered, e, q, words_are e)

  pub says-refused : (refusal : Refusal) → r ≡ Err refusal → refusal_says (refusal_number refusal) (refusal_unknown refusal) ≡ check_says b x m
  unfolding check_says answer_says
  says-refused refusal e = rw (answered, e)

-- ════ a proposal
pub accepted-says : (b : Book) (x m : List ℤ) → checked b x m true ≡ Ok tt → check_says b x m ≡ offer_says b (pair x m)
unfolding check_says answer_says offer_says
accepted-says b x m e = rw e
