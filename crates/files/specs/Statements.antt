-- What the theorems of proofs/ speak of: entries that a file can carry, a file that reads, the latest of entries for a place, the entry in force of entries. Assumes nothing.
use Rattle.files.specs.declared.FileRefusal.{FileRefusal}
use Rattle.std.specs.Prelude.{◌≡◌, ℕ, ◌*◌, ◌/◌, ◌<◌, ◌+◌, ◌≢◌, true, cond, List, [], ◌∷◌, length, ℤ, pos, slice_index_or, Result, Ok, Err}
use Rattle.words.specs.Signed.{eq_z}
use Rattle.words.specs.Words.{word_at}
use Rattle.words.specs.Runs.{words_at}
use Rattle.files.specs.Entries.{EntryFits}
use Rattle.files.specs.Files.{linked_at}
use Rattle.files.specs.Force.{shown}
use Rattle.files.specs.declared.FileRefusal.TheVariants.{NoEntry}
use Rattle.files.specs.declared.EntryFound.{EntryFound}
use Rattle.files.specs.declared.EntryFound.TheVariants.{InNight, InDay}

-- a file that reads has whole entries, each linked
pub record Whole (f : List ℕ) : Type 0 where
  pub whole : length f ≡ 128 * (length f / 128)
  pub linked : (i : ℕ) → i < length f / 128 → linked_at f (128 * i) ≡ true

-- entries that a file can carry
abbrev pub AllFit : List (List ℤ) → Type 0
AllFit es = (i : ℕ) → i < length es → EntryFits (slice_index_or es i [])

-- entries of thirteen words each
abbrev pub AllLong : List (List ℤ) → Type 0
AllLong es = (i : ℕ) → i < length es → length (slice_index_or es i []) ≡ 13

-- the latest entry of n for a place: its number, its place, and that no later one is for the place
pub record Latest (f : List ℕ) (p : ℤ) (n at : ℕ) : Type 0 where
  pub number : ℕ
  pub below : number < n
  pub start : at ≡ 128 * number
  pub place : word_at f (at + 8) ≡ p
  pub last : (i : ℕ) → number < i → i < n → word_at f (128 * i + 8) ≢ p

-- the latest of entries for a place, else `none`
unfoldable pub latest_for : List (List ℤ) → ℤ → List ℤ → List ℤ
latest_for [] p none = none
latest_for (e ∷ es) p none = latest_for es p (cond (eq_z (slice_index_or e 1 (pos 0)) p) e none)

-- "the latest in the night file if it has one, else the latest in the day file"; no words where neither has one
abbrev pub entry_in_force : List (List ℤ) → List (List ℤ) → ℤ → List ℤ
entry_in_force night day p = latest_for night p (latest_for day p [])

-- the part shown holds the words of the entry e; or there is no entry, and the call is refused so
abbrev pub Shows : List ℕ → List ℕ → Result EntryFound FileRefusal → List ℤ → Type 0
Shows night day (Ok (InNight at)) e = words_at (shown (Ok (InNight at)) night day) 0 13 ≡ e
Shows night day (Ok (InDay at)) e = words_at (shown (Ok (InDay at)) night day) 0 13 ≡ e
Shows night day (Err r) e = (r ≡ NoEntry) × (e ≡ [])
