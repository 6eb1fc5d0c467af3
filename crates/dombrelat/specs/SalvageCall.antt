-- What the C call that salvages a damaged file answers, and the lent bytes afterwards: document 02, request 7. "both counts are returned … Refusals: 10 where the output or a list has no
-- room; then none is written." The counts are two words in lent bytes of their own, which 10 is of too. Assumes nothing.
use Rattle.salvage.specs.declared.SalvageCounts.{SalvageCounts}
use Rattle.files.specs.declared.FileRefusal.{FileRefusal}
use Rattle.std.specs.Prelude.{ℕ, cond, List, [], ◌∷◌, leb, length, ℤ, pos, Result, Ok, Err}
use Rattle.words.specs.Signed.{signed}
use Rattle.words.specs.Runs.{put_words}
use Rattle.files.specs.Force.{file_number}
use Rattle.files.specs.declared.FileRefusal.TheVariants.{NoRoom}
use Rattle.salvage.specs.Salvage.{salvage_answer, fresh_left, skipped_left, kept_left}

pub record SalvageReturned : Type 0 where
  pub answer : ℤ
  pub fresh : List ℕ
  pub skipped : List ℕ
  pub kept : List ℕ
  pub counts : List ℕ

abbrev pub salvaged_word : Result SalvageCounts FileRefusal → ℤ
salvaged_word (Ok n) = pos 0
salvaged_word (Err r) = pos (file_number r)

-- skipped runs, then kept entries
abbrev pub counts_left : Result SalvageCounts FileRefusal → List ℕ → List ℕ
counts_left (Ok n) before = put_words before 0 (signed n.skipped ∷ signed n.kept ∷ [])
counts_left (Err r) before = before

unfoldable pub salvage_call : List ℕ → List ℕ → List ℕ → List ℕ → List ℕ → SalvageReturned
salvage_call damaged fresh skipped kept counts =
    let s = cond (leb 16 (length counts)) (salvage_answer damaged (length fresh) (length skipped) (length kept)) (Err NoRoom) in
    record { answer = salvaged_word s; fresh = fresh_left s damaged fresh; skipped = skipped_left s damaged skipped; kept = kept_left s damaged kept; counts = counts_left s counts }
