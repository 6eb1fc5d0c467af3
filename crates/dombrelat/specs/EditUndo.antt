-- An edit that is answered 0, be it an enter over a filled or an empty place or a strike, and an undo right after it leave the bytes as they were, but for
-- those of the journal where the history was full: its oldest edit is gone. Document 02, request 3: "Its undo restores the earlier record, or emptiness."
-- Over books: book, specs/EditUndo.antt. Assumes nothing.
use Rattle.std.specs.Prelude.{ℕ, ◌<◌, ◌≤◌, ◌≡◌, true, List, ℤ, pos, get_or}
use Rattle.std.proofs.Common.{sym, ap, ◌∙◌, subst}
use Rattle.words.specs.Words.{Bytes}
use Rattle.book.specs.declared.Book.{Book}
use Rattle.book.specs.declared.Change.{Change}
use Rattle.book.specs.declared.Call.{Call}
use Rattle.book.specs.declared.Call.TheVariants.{Edit, Undo}
use Rattle.book.specs.Calls.{history_size}
use Rattle.book.specs.CallLaws.{unless-none}
use Rattle.book.specs.Book.{book_says, book_next, outcome}
use Rattle.book.specs.Sound.{Sized}
use Rattle.book.specs.EditUndo as book
use Rattle.layout.specs.Layout.{book_bytes}
use Rattle.layout.specs.Bytes.{book_of, put_book, bytes_fit}
use Rattle.layout.specs.CodecLaws.{read_sized, fits-room, fits-tested, writes_same, writes_over}
use Rattle.lent_edits.specs.LeavesBook.{HoldsBook}
use Rattle.dombrelat.specs.Calls.{Returned, bytes_next, bytes_says}
use Rattle.dombrelat.specs.Demand3Holds.{through-fits, says_same, stays, says-fits, holds_own, edited-next}

-- ════ the statement
-- the bytes `after` hold the book of the bytes s again
pub record Restored (s after : List ℕ) : Type 0 where
  pub book : book.Restored (book_of s) (book_of after)
  pub fits : bytes_fit after ≡ true
  pub beyond : (j : ℕ) → book_bytes ≤ j → get_or after j 0 ≡ get_or s j 0
  -- where the history had room for one edit more, every byte is as it was
  pub whole : (book_of s).journal.count < history_size → Bytes s → after ≡ s

abbrev pub EditAndUndo : Type 0
EditAndUndo =
    (s : List ℕ) (p : ℤ) (c : Change) → bytes_says s (Edit p c) ≡ pos 0
    → (bytes_says (bytes_next s (Edit p c)) Undo ≡ pos 0) × Restored s (bytes_next (bytes_next s (Edit p c)) Undo)

-- ════ a call that is not refused writes its book
writes_book : (s : List ℕ) (c : Call) → bytes_fit s ≡ true → book_says (book_of s) c ≡ 0 → bytes_next s c ≡ put_book s (book_next (book_of s) c)
writes_book s c fit e = ap (λ (r : Returned). r.bytes) (through-fits s (λ b. outcome b c) fit) ∙ unless-none (book_says (book_of s) c) s _ e

pub edit_and_undo : EditAndUndo
edit_and_undo s p c a =
    let b = book_of s in
    let t = bytes_next s (Edit p c) in
    let fit = says-fits s (Edit p c) a in
    let own = holds_own s fit in
    let said = (edited-next s (Edit p c) a).says in
    let w = book.edit_and_undo b (fits-tested s fit) (read_sized s) p c said in
    let h : HoldsBook s t (book_next b (Edit p c)) = stays s s b (Edit p c) own in
    let k : HoldsBook s (bytes_next t Undo) (book_next (book_next b (Edit p c)) Undo) = stays s t (book_next b (Edit p c)) Undo h in
    let undoes : book_says (book_of t) Undo ≡ 0 = ap (λ (x : Book). book_says x Undo) h.reads ∙ w.0 in (
      says_same s t (book_next b (Edit p c)) Undo h ∙ ap pos w.0,
      record {
        book = subst (λ (x : Book). book.Restored b x) (sym k.reads) w.1;
        fits = k.fits;
        beyond = k.beyond;
        whole = λ few bytes.
            writes_book t Undo h.fits undoes
            ∙ ap (λ (x : Book). put_book t (book_next x Undo)) h.reads
            ∙ ap (put_book t) (w.1.whole few)
            ∙ ap (λ (x : List ℕ). put_book x b) (writes_book s (Edit p c) fit said)
            ∙ writes_over s (book_next b (Edit p c)) b (subst Sized h.reads (read_sized t)) (read_sized s) (fits-room s fit)
            ∙ writes_same s fit bytes;
      },
    )
