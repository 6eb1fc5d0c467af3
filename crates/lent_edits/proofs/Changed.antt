-- What an edit or an undo has done to bytes that hold a book, in the words of its contract. Assumes nothing.
use Prim.Native.Nat.{ℕ, zero, suc, ◌-◌}
use mathlib.Core.Path.{◌≡◌, refl, sym, ap, ◌∙◌}
use mathlib.Core.List.{List}
use lib.ListN.{get_or, set}
use lib.IntN.{ℤ}
use Rattle.network.specs.Records.{record_at}
use Rattle.network.specs.declared.Record.{Record}
use Rattle.book.specs.declared.Book.{Book}
use Rattle.book.specs.declared.Reversal.{Reversal}
use Rattle.book.specs.Journal.{slot_before, slot_after, one_more, free, latest}
use Rattle.book.specs.declared.Change.{Change}
use Rattle.book.specs.declared.Call.{Call}
use Rattle.book.specs.declared.Call.TheVariants as call
use Rattle.book.specs.Calls.{place_of, puts, undo_no, call_no, unless}
use Rattle.book.specs.CallLaws.{unless_some}
use Rattle.book.specs.Book.{with_entry, edited, undone, book_accepts, book_says, outcome}
use Rattle.layout.specs.Bytes.{put_book}
use Rattle.lent_edits.specs.LentEdits.{bytes_left}

-- ════ the core edit, with the journal that goes with it
module _ (s : List ℕ) (b : Book) where
  pub edit_made : (i next slot count more : ℕ) (r old : Record) → old ≡ record_at b.places i → next ≡ b.journal.next → count ≡ b.journal.count → slot ≡ slot_after next → more ≡ one_more count
      → put_book s (with_entry b i r (record { entries = set b.journal.entries next (record { place = i; prior = old }); next = slot; count = more }))
      ≡ put_book s (edited b i r)
  edit_made i next slot count more r old p q e n m =
      let a : slot ≡ slot_after b.journal.next = n ∙ ap slot_after q in
      let h : more ≡ one_more b.journal.count = m ∙ ap one_more e in
      λ k. put_book s (with_entry b i r (record { entries = set b.journal.entries (q k) (record { place = i; prior = p k }); next = a k; count = h k }))

  pub restored : (next slot count : ℕ) (u : Reversal) → next ≡ b.journal.next → slot ≡ slot_before next → count ≡ b.journal.count → u ≡ get_or b.journal.entries slot free
      → put_book s (with_entry b u.place u.prior (record { entries = set b.journal.entries slot free; next = slot; count = count - 1 })) ≡ put_book s (undone b)
  restored next slot count u q n e p =
      let a : slot ≡ slot_before b.journal.next = n ∙ ap slot_before q in
      let l : u ≡ latest b.journal = p ∙ ap (λ (k : ℕ). get_or b.journal.entries k free) a in
      λ k. put_book s (with_entry b (l k).place (l k).prior (record { entries = set b.journal.entries (a k) free; next = a k; count = e k - 1 }))

-- ════ a call on bytes s that hold the book b
module _ (s : List ℕ) (b : Book) where
  -- the book is written where the call is not refused
  written : (n : ℕ) (x : Book) → unless n s (put_book s x) ≡ unless n s (put_book s (unless n b x))
  unfolding unless
  written zero x = refl
  written (suc n) x = refl

  changed : (c : Call) (n : ℕ) (t : List ℕ) → n ≡ book_says b c → t ≡ unless n s (put_book s (book_accepts b c)) → (n ≡ book_says b c) × (t ≡ bytes_left s (outcome b c))
  changed c n t e q = (e, q ∙ ap (λ (k : ℕ). unless k s (put_book s (book_accepts b c))) e ∙ written (book_says b c) (book_accepts b c))

  -- a refused call leaves the bytes
  pub edit_refused : (c : Call) (n : ℕ) → n ≡ book_says b c → (book_says b c ≡ 0 → ⊥) → (n ≡ book_says b c) × (s ≡ bytes_left s (outcome b c))
  edit_refused c n e h = changed c n s e (sym (unless_some n s _ (λ z. h (sym e ∙ z))))

  pub edit_changed : (p : ℤ) (c : Change) (i : ℕ) (r : Record) (t : List ℕ) → book_says b (call.Edit p c) ≡ 0 → i ≡ place_of p → r ≡ puts c
      → t ≡ put_book s (edited b i r) → (0 ≡ book_says b (call.Edit p c)) × (t ≡ bytes_left s (outcome b (call.Edit p c)))
  unfolding book_accepts unless
  edit_changed p c i r t e at is h = changed (call.Edit p c) 0 t (sym e) (h ∙ (λ k. put_book s (edited b (at k) (is k))))

  pub undo_none : (count : ℕ) → count ≡ b.journal.count → count ≡ 0 → (8 ≡ book_says b call.Undo) × (s ≡ bytes_left s (outcome b call.Undo))
  unfolding call_no undo_no unless
  undo_none count e z = changed call.Undo 8 s (ap undo_no (sym z ∙ e)) refl

  pub undo_done : (count : ℕ) (t : List ℕ) → count ≡ b.journal.count → (count ≡ 0 → ⊥) → t ≡ put_book s (undone b) → (0 ≡ book_says b call.Undo) × (t ≡ bytes_left s (outcome b call.Undo))
  unfolding call_no undo_no unless book_accepts
  undo_done zero t e z h = absurd (z refl)
  undo_done (suc count) t e z h = changed call.Undo 0 t (ap undo_no e) h
