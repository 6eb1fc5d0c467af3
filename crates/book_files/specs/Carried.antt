-- The entries of a book that is by the rules and that a file can carry are entries of a file, and each asks to enter its own record again. Assumes nothing.
use Rattle.files.specs.Statements.{AllFit}
use Rattle.std.specs.Prelude.{ℕ, suc, ◌+◌, ◌<◌, ◌≤◌, ◌≡◌, refl, true, false, ◌&&◌, List, ltb, get_or, ℤ, pos, nat_abs}
use Rattle.std.proofs.Common.{sym, ap, ◌∙◌, arith, lt-ltb}
use Rattle.std.specs.Int.Signed.{le_z}
use Rattle.words.specs.Bools.{clash, and_left, and_right, and_both}
use Rattle.words.specs.Signed.{eq_z}
use Rattle.words.specs.SignedLaws.{eq_z_true, index_suc, index_test}
use Rattle.lists.specs.All.{all_at}
use Rattle.lists.specs.Sizes.{Small, small_at}
use Rattle.lists.specs.Stored.{fits_by}
use Rattle.network.specs.Records.{record_at, is_empty, observations}
use Rattle.network.specs.RecordWords.{record_words, record_in}
use Rattle.network.specs.RecordWordLaws.{record_back}
use Rattle.network.specs.declared.Record.{Record}
use Rattle.network.specs.declared.Record.TheVariants.{Empty, Baseline as baseline, Height as height, Position as position}
use Rattle.book.specs.declared.Book.{Book}
use Rattle.book.specs.declared.Change.TheVariants.{Enter}
use Rattle.book.specs.declared.Call.TheVariants.{Edit}
use Rattle.book.specs.Sound.{SoundParts}
use Rattle.layout.specs.WordSizes.{L, record_small}
use Rattle.files.specs.Entries.{zeros_from, kind_right, right_words, EntryFits}
use Rattle.book_files.specs.Writing.{record_entry, carried, book_entries, all_carried}
use Rattle.book_files.specs.WritingLaws.{each_below}
use Rattle.book_files.specs.Entering.{record_words_in, call_in}
use Rattle.book_files.specs.EnteringLaws.{call_enters}

-- ════ an entry of a file: its kind, place and zeros are right
pub place_right : (p : ℕ) → p < 256 → le_z (pos 1) (pos (suc p)) && le_z (pos (suc p)) (pos 256) ≡ true
place_right p h = sym (index_test (pos (suc p)) 256) ∙ ap (λ (k : ℕ). ltb k 256) (index_suc p 256 h) ∙ lt-ltb p 256 h

entry_right : (p : ℕ) (r : Record) → p < 256 → is_empty r ≡ false → carried r ≡ true → right_words (record_entry p r) ≡ true
unfolding right_words kind_right zeros_from record_entry record_words is_empty observations carried
entry_right p Empty h f c = clash refl f
entry_right p (baseline b) h f c = and_both _ _ (place_right p h) refl
entry_right p (height l) h f c = and_both _ _ (place_right p h) refl
entry_right p (position s) h f c = clash c refl

-- its words are small where those of the record are
entry_small : (p : ℕ) (r : Record) → p < 256 → ((i : ℕ) → nat_abs (get_or (record_words r) i (pos 0)) ≤ L) → Small L (record_entry p r)
unfolding record_entry
entry_small p r h s = (s 0, (omega arith, (s 1, (s 2, (s 3, (s 4, (s 5, (s 6, (s 7, (s 8, (s 9, (s 10, (s 11, tt)))))))))))))

module _ (b : Book) (o : SoundParts b) (all : all_carried b ≡ true) where
  pub carried-at : (p : ℕ) → p < 256 → carried (record_at b.places p) ≡ true
  carried-at p h = all_at 256 (λ q. carried (record_at b.places q)) p all h

  pub entries_fit_lem : AllFit (book_entries b)
  unfolding record_entry
  entries_fit_lem =
      each_below EntryFits b.places 256
      (λ p h f.
      let r = record_at b.places p in
      let small = small_at L (record_words r) (record_small b.network o.network r (o.records p)) in
      let each = small_at L (record_entry p r) (entry_small p r h small) in
      record { long = refl; words = λ i. fits_by (get_or (record_entry p r) i (pos 0)) (each i) tt; right = entry_right p r h f (carried-at p h) })

-- ════ the call that it asks for
words_back : (p : ℕ) (r : Record) → carried r ≡ true → record_words_in (record_entry p r) ≡ record_words r
unfolding record_words_in record_entry record_words carried
words_back p Empty c = refl
words_back p (baseline b) c = rw (eq_z_true b.hf (pos 0) (and_left (eq_z b.hf (pos 0)) (eq_z b.ht (pos 0)) c), eq_z_true b.ht (pos 0) (and_right (eq_z b.hf (pos 0)) (eq_z b.ht (pos 0)) c))
words_back p (height l) c = refl
words_back p (position s) c = clash c refl

no_strike : (p : ℕ) (r : Record) → eq_z (get_or (record_entry p r) 0 (pos 0)) (pos 3) ≡ false
unfolding record_entry record_words
no_strike p Empty = refl
no_strike p (baseline b) = refl
no_strike p (height l) = refl
no_strike p (position s) = refl

pub entry_call : (p : ℕ) (r : Record) → carried r ≡ true → call_in (record_entry p r) ≡ Edit (pos (suc p)) (Enter r)
unfolding record_entry
entry_call p r c =
    let back : record_in (record_words r) 0 ≡ r = record_back (record_words r) 0 r (λ j h. let z : 0 + j ≡ j = omega arith in ap (λ (k : ℕ). get_or (record_words r) k (pos 0)) z) in
    sym (call_enters (record_entry p r) (no_strike p r) (sym (ap (λ (w : List ℤ). record_in w 0) (words_back p r c) ∙ back)))
