-- The cases of a check, without and with a sheet, and of a check distance. Assumes nothing.
use Rattle.distances.specs.Distances.{DistanceAnswer}
use Rattle.acceptance.specs.Judge.{Answer}
use Prim.Native.Nat.{ℕ}
use mathlib.Core.Path.{◌≡◌, sym, ap, ◌∙◌}
use mathlib.Core.Bool.{Bool, true, false, cond}
use mathlib.Core.List.{List}
use lib.IntN.{pos}
use Rattle.words.specs.Runs.{put_words}
use Rattle.sheet.specs.Sheet.{sheet_words}
use Rattle.distances.specs.declared.CheckDistance.{CheckDistance}
use Rattle.lent_checks.specs.LentDistances.{agreement_word, agreement_lent}
use Rattle.lent_checks.specs.LentChecks.{answer_word, checked_lent, on_accepted, all_words, sheet_fits}
use Rattle.layout.specs.Bytes.{book_of, bytes_fit}
use Rattle.dombrelat.specs.CheckCalls.{check_call, Judged, judged_lent, sheet_call, distance_call}

-- ════ a check
module _ (s x m : List ℕ) where
  pub check_unfit : bytes_fit s ≡ false → pos 25 ≡ check_call s x m
  unfolding check_call
  check_unfit e = sym (ap (λ (t : Bool). cond t (answer_word (checked_lent (book_of s) x m true)) (pos 25)) e)

  pub check_fit : (a : Answer) → bytes_fit s ≡ true → a ≡ checked_lent (book_of s) x m true → answer_word a ≡ check_call s x m
  unfolding check_call
  check_fit a e q =
      ap answer_word q ∙ sym (ap (λ (t : Bool). cond t (answer_word (checked_lent (book_of s) x m true)) (pos 25)) e)

-- ════ a check with a sheet
module _ (s x m o : List ℕ) where
  abbrev tested : Bool → Judged
  tested t = cond t (judged_lent (checked_lent (book_of s) x m (sheet_fits (book_of s) o)) (book_of s) x m o) (record { answer = pos 25; sheet = o })

  pub sheet_unfit : bytes_fit s ≡ false → (pos 25 ≡ (sheet_call s x m o).answer) × (o ≡ (sheet_call s x m o).sheet)
  unfolding sheet_call
  sheet_unfit e = let p = sym (ap tested e) in (ap (λ (j : Judged). j.answer) p, ap (λ (j : Judged). j.sheet) p)

  pub sheet_fit : (a : Answer) (t : List ℕ) → bytes_fit s ≡ true → a ≡ checked_lent (book_of s) x m (sheet_fits (book_of s) o)
      → t ≡ on_accepted a (put_words o 0 (sheet_words (book_of s).network (book_of s).places (all_words x) (all_words m))) o → (answer_word a ≡ (sheet_call s x m o).answer) × (t ≡ (sheet_call s x m o).sheet)
  unfolding sheet_call
  sheet_fit a t e q r =
      let f = sym (ap tested e) in (
        ap answer_word q ∙ ap (λ (j : Judged). j.answer) f,
        r ∙ ap (λ (y : Answer). on_accepted y (put_words o 0 (sheet_words (book_of s).network (book_of s).places (all_words x) (all_words m))) o) q
            ∙ ap (λ (j : Judged). j.sheet) f,
      )

-- ════ a check distance
module _ (s x m : List ℕ) (d : CheckDistance) where
  pub distance_unfit : bytes_fit s ≡ false → pos 25 ≡ distance_call s x m d
  unfolding distance_call
  distance_unfit e = rw e

  pub distance_fit : (a : DistanceAnswer) → bytes_fit s ≡ true → a ≡ agreement_lent (book_of s) x m d → agreement_word a ≡ distance_call s x m d
  unfolding distance_call
  distance_fit a e q = rw e (ap agreement_word q)
