-- What the C calls that check a solution answer, and the lent sheet afterwards; and a check distance. Assumes nothing.
use Rattle.acceptance.specs.Judge.{Answer}
use Rattle.std.specs.Prelude.{ℕ, true, cond, List, ℤ, pos}
use Rattle.words.specs.Runs.{put_words}
use Rattle.book.specs.declared.Book.{Book}
use Rattle.sheet.specs.Sheet.{sheet_words}
use Rattle.distances.specs.declared.CheckDistance.{CheckDistance}
use Rattle.lent_checks.specs.LentChecks.{all_words, answer_word, checked_lent, sheet_fits, on_accepted}
use Rattle.lent_checks.specs.LentDistances.{agreement_word, agreement_lent}
use Rattle.layout.specs.Bytes.{book_of, bytes_fit}

-- without a sheet; 25 before all others
unfoldable pub check_call : List ℕ → List ℕ → List ℕ → ℤ
check_call s x m = cond (bytes_fit s) (answer_word (checked_lent (book_of s) x m true)) (pos 25)

-- ════ with a sheet: its answer, and its bytes afterwards
pub record Judged : Type 0 where
  pub answer : ℤ
  pub sheet : List ℕ

-- the answer a as the call gives it, and on acceptance the sheet's words at the front of the bytes: "Words beyond stay"
abbrev pub judged_lent : Answer → Book → List ℕ → List ℕ → List ℕ → Judged
judged_lent a b x m sheet =
    record { answer = answer_word a; sheet = on_accepted a (put_words sheet 0 (sheet_words b.network b.places (all_words x) (all_words m))) sheet }

unfoldable pub sheet_call : List ℕ → List ℕ → List ℕ → List ℕ → Judged
sheet_call s x m sheet =
    cond (bytes_fit s) (judged_lent (checked_lent (book_of s) x m (sheet_fits (book_of s) sheet)) (book_of s) x m sheet) (record { answer = pos 25; sheet = sheet })

-- ════ a check distance, from the numbers of the C call, in the header's order; 25 before all others
abbrev pub distance_of : ℤ → ℤ → ℤ → ℤ → ℤ → ℤ → CheckDistance
distance_of from to distance instrument target tolerance =
    record { from = from; to = to; distance = distance; instrument = instrument; target = target; tolerance = tolerance }

unfoldable pub distance_call : List ℕ → List ℕ → List ℕ → CheckDistance → ℤ
distance_call s x m d = cond (bytes_fit s) (agreement_word (agreement_lent (book_of s) x m d)) (pos 25)
