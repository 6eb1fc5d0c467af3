-- A book written as a file: document 02, request 6. "A book is written as its records alone, by rising place." Assumes nothing.
use Rattle.std.specs.Prelude.{ℕ, zero, suc, ◌*◌, ◌≡◌, refl, Bool, true, false, cond, ◌&&◌, List, [], ◌∷◌, ◌++◌, leb, length, get_or, drop, ℤ, pos, Result, Ok, Err}
use Rattle.words.specs.Signed.{eq_z}
use Rattle.lists.specs.All.{all_below}
use Rattle.network.specs.Units.{place_count}
use Rattle.network.specs.Records.{record_at, is_empty}
use Rattle.network.specs.RecordWords.{record_words}
use Rattle.network.specs.declared.Place.{Place}
use Rattle.network.specs.declared.Baseline.{Baseline}
use Rattle.network.specs.declared.Level.{Level}
use Rattle.network.specs.declared.Record.{Record}
use Rattle.network.specs.declared.Record.TheVariants.{Empty, Baseline as baseline, Height as height, Position as position}
use Rattle.book.specs.declared.Book.{Book}
use Rattle.files.specs.Files.{file_of}
use Rattle.files.specs.declared.FileRefusal.{FileRefusal}
use Rattle.files.specs.declared.FileRefusal.TheVariants.{NoRoom, NotCarried}

-- ════ one record
-- the thirteen words of the record r at place p, counted from 0: "kind (1 baseline, 2 height difference, 3 strike), place 1 to 256, from, to, three observed values, six weights (EE, EN,
-- EU, NN, NU, UU)". They are the words that a book has of it, with the place after the kind, and without the antenna heights
unfoldable pub record_entry : ℕ → Record → List ℤ
record_entry p r =
    let w : ℕ → ℤ = λ i. get_or (record_words r) i (pos 0) in
    w 0 ∷ pos (suc p) ∷ w 1 ∷ w 2 ∷ w 3 ∷ w 4 ∷ w 5 ∷ w 6 ∷ w 7 ∷ w 8 ∷ w 9 ∷ w 10 ∷ w 11 ∷ []

pub entry_of-baseline : (p : ℕ) (b : Baseline)
    → record_entry p (baseline b) ≡ pos 1 ∷ pos (suc p) ∷ b.from ∷ b.to ∷ b.east ∷ b.north ∷ b.up ∷ b.ee ∷ b.en ∷ b.eu ∷ b.nn ∷ b.nu ∷ b.uu ∷ []
unfolding record_entry record_words
entry_of-baseline p b = refl

-- "A height difference uses the U and UU words … unused words are 0"
pub entry_of_height : (p : ℕ) (h : Level)
    → record_entry p (height h) ≡ pos 2 ∷ pos (suc p) ∷ h.from ∷ h.to ∷ pos 0 ∷ pos 0 ∷ h.up ∷ pos 0 ∷ pos 0 ∷ pos 0 ∷ pos 0 ∷ pos 0 ∷ h.weight ∷ []
unfolding record_entry record_words
entry_of_height p h = refl

-- "Files carry no antenna heights but 0 and no positions yet"
unfoldable pub carried : Record → Bool
carried Empty = true
carried (baseline b) = eq_z b.hf (pos 0) && eq_z b.ht (pos 0)
carried (height h) = true
carried (position p) = false

-- ════ all of them
-- the entry of what a place holds: none where it is empty
unfoldable pub record_entries : ℕ → Record → List (List ℤ)
record_entries p r = cond (is_empty r) [] (record_entry p r ∷ [])

-- "by rising place": those of the places below n
unfoldable pub entries_below : List Place → ℕ → List (List ℤ)
entries_below places zero = []
entries_below places (suc n) = entries_below places n ++ record_entries n (record_at places n)

abbrev pub book_entries : Book → List (List ℤ)
book_entries b = entries_below b.places place_count

abbrev pub all_carried : Book → Bool
all_carried b = all_below place_count (λ p. carried (record_at b.places p))

-- ════ the answer, given the room in bytes: "10 (room for less than 128 bytes a record), … 19 …. A write returns its length."
unfoldable pub write_answer : Book → ℕ → Result ℕ FileRefusal
write_answer b room =
    let n = 128 * length (book_entries b) in
    cond (leb n room) (cond (all_carried b) (Ok n) (Err NotCarried)) (Err NoRoom)

-- the lent bytes afterwards: "a refused write writes nothing"; "Lent room beyond what is written stays"
unfoldable pub file_left : Result ℕ FileRefusal → Book → List ℕ → List ℕ
file_left (Ok n) b file = file_of (book_entries b) ++ drop n file
file_left (Err r) b file = file
