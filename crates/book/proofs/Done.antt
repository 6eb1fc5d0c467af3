-- What the code of a call has shown when it returns, in the words of its contract. Assumes nothing.
use Rattle.std.proofs.Common.{ℕ, zero, suc, ◌≡◌, refl, sym, ap, ◌∙◌, Bool, true, false, cond, List, [], ℤ, length, arith}
use Rattle.integers.specs.Tables.{length-tabulate}
use Rattle.words.specs.Bools.{and_left, and_both}
use Rattle.network.specs.Units.{most_unknowns}
use Rattle.network.specs.Stations.{network_of, opens}
use Rattle.network.specs.OpeningLaws.{opened-fits}
use Rattle.network.specs.Records.{record_at}
use Rattle.network.specs.declared.Record.{Record}
use Rattle.normals.specs.Formulas.{normals_of, matrix_length}
use Rattle.normals.specs.Same.{same_normals, equal_same}
use Rattle.book.specs.declared.Book.{Book}
use Rattle.book.specs.declared.Journal.{Journal}
use Rattle.book.specs.declared.Reversal.{Reversal}
use Rattle.book.specs.declared.Change.{Change}
use Rattle.book.specs.declared.Call.{Call}
use Rattle.book.specs.declared.Call.TheVariants.{Edit, Undo}
use Rattle.book.specs.Outcome.{Outcome}
use Rattle.book.specs.Journal.{pushed, popped, latest}
use Rattle.book.specs.Calls.{place_of, puts, undo_no, call_no, unless}
use Rattle.book.specs.Book.{opened_book, opening, with_entry, edited, undone, book_says, book_accepts, settled, outcome, records_fit, sound}
use Rattle.book.specs.Sound.{SoundParts, sound-parts, parts-sound}
use Rattle.book.specs.SoundLaws.{sound-next}
use Rattle.book.specs.Opened.{sound-opened}

-- ════ opening
pub opening_done : (list : List ℤ) (b : Book) → opens list ≡ true → b ≡ opened_book (network_of list) → (record { refusal = 0; book = b } ≡ opening list) × (sound b ≡ true)
opening_done list b o q = (
  ap (λ (x : Book). record { refusal = 0; book = x }) q
      ∙ ap (λ (t : Bool). cond t (record { refusal = 0; book = opened_book (network_of list) }) (record { refusal = 1; book = opened_book (network_of []) })) (sym o),
  ap sound q ∙ parts-sound _ (sound-opened (network_of list) (opened-fits list o)),
)

pub opening-refused : (list : List ℤ) → opens list ≡ false → record { refusal = 1; book = opened_book (network_of []) } ≡ opening list
opening-refused list o =
    ap (λ (t : Bool). cond t (record { refusal = 0; book = opened_book (network_of list) }) (record { refusal = 1; book = opened_book (network_of []) })) (sym o)

-- ════ a book whose N and u are written afresh. Behind a reference the lengths of N and u are not at hand, and a call that puts nothing looks at neither
abbrev pub fresh : Book → Book
fresh b = record { network = b.network; places = b.places; journal = b.journal; normals = normals_of b.network.stations b.places }

fresh-sound : (b : Book) → sound b ≡ true → sound (fresh b) ≡ true
unfolding sound records_fit
fresh-sound b s = and_both _ _ (and_left _ (same_normals b.normals (normals_of b.network.stations b.places)) s) (equal_same (fresh b).normals (fresh b).normals refl)

pub fresh-parts : (b : Book) → length b.places ≡ 256 → length b.journal.entries ≡ 64 → sound b ≡ true → SoundParts (fresh b)
fresh-parts b p e s =
    sound-parts (fresh b) (record { places = p; entries = e; matrix = length-tabulate matrix_length _; right = length-tabulate most_unknowns _ }) (fresh-sound b s)

-- ════ a call that was judged and settled
pub settled_done : (n : ℕ) (b c : Book) (e : Outcome) → n ≡ 0 → e ≡ record { refusal = 0; book = c } → e ≡ settled n b c
unfolding unless
settled_done zero b c e p q = q
settled_done (suc n) b c e p q = absurd (let z : suc n ≡ 0 = p in omega arith)

pub settled-refused : (n : ℕ) (b c : Book) (e : Outcome) → (n ≡ 0 → ⊥) → e ≡ record { refusal = n; book = b } → e ≡ settled n b c
unfolding unless
settled-refused zero b c e p q = absurd (p refl)
settled-refused (suc n) b c e p q = q

-- an accepted call: what it leaves is sound, and is its outcome
pub accepted_done : (b : Book) (c : Call) (s : Book) → SoundParts (fresh b) → book_says b c ≡ 0 → s ≡ book_accepts b c → book_accepts (fresh b) c ≡ book_accepts b c
    → (record { refusal = 0; book = s } ≡ outcome b c) × (sound s ≡ true)
unfolding unless
accepted_done b c s o z w same = (
  settled_done (book_says b c) b (book_accepts b c) _ z (ap (λ (x : Book). record { refusal = 0; book = x }) w),
  ap sound (w ∙ sym same ∙ accepted (book_says b c) z) ∙ parts-sound _ (sound-next (fresh b) o c),
)
  where
    accepted : (n : ℕ) → n ≡ 0 → book_accepts (fresh b) c ≡ unless n (fresh b) (book_accepts (fresh b) c)
    accepted zero e = refl
    accepted (suc n) e = absurd (let z : suc n ≡ 0 = e in omega arith)

pub edit_done : (b : Book) (p : ℤ) (c : Change) (i : ℕ) (r : Record) (s : Book) → SoundParts (fresh b) → book_says b (Edit p c) ≡ 0 → i ≡ place_of p → r ≡ puts c → s ≡ edited b i r
    → (record { refusal = 0; book = s } ≡ outcome b (Edit p c)) × (sound s ≡ true)
unfolding book_accepts
edit_done b p c i r s o z at w e = accepted_done b (Edit p c) s o z (e ∙ (λ k. edited b (at k) (w k))) refl

pub undo_done : (b s : Book) → SoundParts (fresh b) → book_says b Undo ≡ 0 → s ≡ undone b → (record { refusal = 0; book = s } ≡ outcome b Undo) × (sound s ≡ true)
unfolding book_accepts
undo_done b s o z e = accepted_done b Undo s o z e refl

-- ════ the history
pub history_none : (b : Book) → b.journal.count ≡ 0 → book_says b Undo ≡ 8
unfolding call_no undo_no
history_none b e = ap undo_no e

pub history_some : (b : Book) → (b.journal.count ≡ 0 → ⊥) → book_says b Undo ≡ 0
unfolding call_no undo_no
history_some b h = go b.journal.count h
  where
    go : (n : ℕ) → (n ≡ 0 → ⊥) → undo_no n ≡ 0
    go zero h = absurd (h refl)
    go (suc n) h = refl

-- ════ the core edit, with the journal that goes with it
pub edited-is : (b s : Book) (i : ℕ) (r old : Record) (j : Journal) → old ≡ record_at b.places i → j ≡ pushed b.journal (record { place = i; prior = old }) → s ≡ with_entry b i r j
    → s ≡ edited b i r
edited-is b s i r old j p q w =
    w ∙ ap (with_entry b i r) (q ∙ ap (λ (x : Record). pushed b.journal (record { place = i; prior = x })) p)

pub undone-is : (b s : Book) (u : Reversal) (j : Journal) → u ≡ latest b.journal → j ≡ popped b.journal → s ≡ with_entry b u.place u.prior j → s ≡ undone b
undone-is b s u j p q w = w ∙ ap (λ (x : Reversal). with_entry b x.place x.prior j) p ∙ ap (with_entry b (latest b.journal).place (latest b.journal).prior) q
