-- The cases of the call that salvages a damaged file. Assumes nothing.
use Rattle.salvage.specs.declared.SalvageCounts.{SalvageCounts}
use Rattle.files.specs.declared.FileRefusal.{FileRefusal}
use Rattle.std.specs.Prelude.{Result}
use Prim.Native.Nat.{ℕ, ◌<◌, ◌≤◌}
use mathlib.Core.Path.{◌≡◌, refl, sym}
use mathlib.Core.List.{List}
use borrow.Author.Tests.{le-leb, lt-leb}
use lib.ListN.{length}
use lib.IntN.{ℤ, pos}
use Rattle.salvage.specs.Salvage.{salvage_answer, fresh_left, skipped_left, kept_left}
use Rattle.dombrelat.specs.SalvageCall.{SalvageReturned, salvaged_word, counts_left, salvage_call}

-- an answer and the bytes left are those of a call
abbrev pub Salvages : ℤ → List ℕ → List ℕ → List ℕ → List ℕ → SalvageReturned → Type 0
Salvages r fresh skipped kept counts e =
    (r ≡ e.answer) × ((fresh ≡ e.fresh) × ((skipped ≡ e.skipped) × ((kept ≡ e.kept) × (counts ≡ e.counts))))

module _ (f fresh skipped kept counts : List ℕ) where
  pub salvage_no_room : length counts < 16 → Salvages (pos 10) fresh skipped kept counts (salvage_call f fresh skipped kept counts)
  unfolding salvage_call fresh_left skipped_left kept_left
  salvage_no_room h = rw (lt-leb 16 (length counts) h) (refl, (refl, (refl, (refl, refl))))

  pub salvage_given : {s : Result SalvageCounts FileRefusal} {r : ℤ} {fresh' skipped' kept' counts' : List ℕ} → 16 ≤ length counts
      → s ≡ salvage_answer f (length fresh) (length skipped) (length kept) → r ≡ salvaged_word s
      → fresh' ≡ fresh_left s f fresh → skipped' ≡ skipped_left s f skipped → kept' ≡ kept_left s f kept → counts' ≡ counts_left s counts
      → Salvages r fresh' skipped' kept' counts' (salvage_call f fresh skipped kept counts)
  unfolding salvage_call
  salvage_given h q a b c d e = rw (le-leb 16 (length counts) h, sym q) (a, (b, (c, (d, e))))
