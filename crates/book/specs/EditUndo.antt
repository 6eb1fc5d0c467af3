-- An edit that is not refused, be it an enter over a filled or an empty place or a strike, and an undo right after it leave the book as it was, but for the
-- oldest edit of a full history, which is gone. Document 02, request 3: "Its undo restores the earlier record, or emptiness." The crate dombrelat states
-- it again over bytes. Assumes nothing.
use Rattle.std.specs.Prelude.{ℕ, ◌-◌, ◌<◌, ◌≡◌, refl, true, ℤ, take, set}
use Rattle.std.proofs.Common.{sym, ap, ◌∙◌, arith}
use Rattle.std.proofs.lemmas.List.{set-get_or}
use Rattle.network.specs.Records.{vacant, record_at}
use Rattle.network.specs.declared.Record.{Record}
use Rattle.normals.specs.Formulas.{normals_of}
use Rattle.book.specs.declared.Reversal.{Reversal}
use Rattle.book.specs.declared.Book.{Book}
use Rattle.book.specs.declared.Change.{Change}
use Rattle.book.specs.declared.Call.TheVariants.{Edit, Undo}
use Rattle.book.specs.Calls.{place_of, puts, call_no}
use Rattle.book.specs.Journal.{journal_size, one_more, reversals, pushed, latest}
use Rattle.book.specs.Book.{sound, edited, undone, book_accepts, book_says, book_next}
use Rattle.book.specs.CallLaws.{unless-none, some_undo}
use Rattle.book.specs.JournalLaws.{set_again, latest-pushed, history_back, journal_back}
use Rattle.book.specs.Sound.{Sized, SoundParts, sound-parts}

-- ════ the statement
-- the book `after` is the book b again
pub record Restored (b after : Book) : Type 0 where
  pub network : after.network ≡ b.network
  -- the record in force at every place, the edited one with them
  pub places : after.places ≡ b.places
  pub normals : after.normals ≡ b.normals
  -- of the history the oldest edit alone may be gone: "a 65th pushes out the oldest", and an undo does not bring it back
  pub history : reversals after.journal ≡ take (journal_size - 1) (reversals b.journal)
  -- so where the history had room for one edit more, nothing at all has changed
  pub whole : b.journal.count < journal_size → after ≡ b

abbrev pub EditAndUndo : Type 0
EditAndUndo =
    (b : Book) → sound b ≡ true → Sized b → (p : ℤ) (c : Change) → book_says b (Edit p c) ≡ 0
    → (book_says (book_next b (Edit p c)) Undo ≡ 0) × Restored b (book_next (book_next b (Edit p c)) Undo)

-- ════ the book
module _ (b : Book) (o : SoundParts b) (p : ℕ) (r : Record) where
  -- what goes on the journal
  abbrev reversal : Reversal
  reversal = record { place = p; prior = record_at b.places p }

  places_back : set (set b.places p (record { entry = r })) p (record { entry = record_at b.places p }) ≡ b.places
  places_back = set_again b.places p _ _ ∙ set-get_or b.places p vacant

  restored : Restored b (undone (edited b p r))
  restored =
      let j = pushed b.journal reversal in
      let last : latest j ≡ reversal = latest-pushed b.journal reversal o.entries o.journal in
      let places : (undone (edited b p r)).places ≡ b.places =
      ap (λ (u : Reversal). set (set b.places p (record { entry = r })) u.place (record { entry = u.prior })) last ∙ places_back in
      let normals : (undone (edited b p r)).normals ≡ b.normals = ap (normals_of b.network.stations) places ∙ sym o.normals in
      record {
        network = refl;
        places = places;
        normals = normals;
        history = history_back b.journal reversal o.entries o.journal;
        whole = λ few. λ i. record { network = b.network; places = places i; journal = journal_back b.journal reversal o.entries o.journal few i; normals = normals i };
      }

pub edit_and_undo : EditAndUndo
unfolding book_accepts call_no
edit_and_undo b s z p c e =
    let o = sound-parts b z s in
    let done : book_next b (Edit p c) ≡ edited b (place_of p) (puts c) = unless-none (book_says b (Edit p c)) b _ e in
    let says : book_says (edited b (place_of p) (puts c)) Undo ≡ 0 = some_undo (one_more b.journal.count) (omega arith) in
    let back : book_next (book_next b (Edit p c)) Undo ≡ undone (edited b (place_of p) (puts c)) = ap (λ (x : Book). book_next x Undo) done ∙ unless-none _ _ _ says in
    (ap (λ (x : Book). book_says x Undo) done ∙ says, rw back (restored b o (place_of p) (puts c)))
