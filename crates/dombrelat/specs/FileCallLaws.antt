-- Laws of the C calls on files: their numbers are small, a file's length too, and a file entered is a run of C edits. Assumes nothing.
use Rattle.std.specs.Prelude.{ℕ, ◌*◌, ◌<◌, ◌≤◌, ◌≡◌, refl, Bool, true, false, cond, List, leb, length, Ok, Err}
use Rattle.std.proofs.Common.{sym, ap, ◌∙◌, subst, arith}
use Rattle.book.specs.declared.Book.{Book}
use Rattle.book.specs.declared.Call.{Call}
use Rattle.book.specs.Book.{outcome}
use Rattle.book.specs.Run.{final, answers, Alike, run_answers, run_final}
use Rattle.layout.specs.Bytes.{book_of, bytes_fit}
use Rattle.files.specs.Force.{file_number}
use Rattle.files.specs.declared.FileRefusal.{FileRefusal}
use Rattle.files.specs.declared.FileRefusal.TheVariants.{BadPlace, NoRoom, Unreadable, NotCarried, NoEntry}
use Rattle.book_files.specs.Writing.{book_entries, all_carried, write_answer}
use Rattle.book_files.specs.WritingLaws.{entries_few}
use Rattle.book_files.specs.Entering.{left_by, said_to}
use Rattle.dombrelat.specs.Calls.{Returned, bytes_next, bytes_says}
use Rattle.dombrelat.specs.Demand3Holds.{through-fits, stays, holds_own}
use Rattle.dombrelat.specs.FileCalls.{LengthSmall}

-- ════ numbers
pub number-least : (r : FileRefusal) → 0 < file_number r
number-least BadPlace = let h : 0 < 2 = omega arith in h
number-least NoRoom = let h : 0 < 10 = omega arith in h
number-least Unreadable = let h : 0 < 18 = omega arith in h
number-least NotCarried = let h : 0 < 19 = omega arith in h
number-least NoEntry = let h : 0 < 20 = omega arith in h

pub number_most_lem : (r : FileRefusal) → file_number r ≤ 20
number_most_lem BadPlace = let h : 2 ≤ 20 = omega arith in h
number_most_lem NoRoom = let h : 10 ≤ 20 = omega arith in h
number_most_lem Unreadable = let h : 18 ≤ 20 = omega arith in h
number_most_lem NotCarried = let h : 19 ≤ 20 = omega arith in h
number_most_lem NoEntry = let h : 20 ≤ 20 = omega arith in h

-- the length of a book's file
pub length-small : (b : Book) (room : ℕ) → LengthSmall (write_answer b room)
unfolding write_answer
length-small b room = go (leb (128 * length (book_entries b)) room) (all_carried b)
  where
    go : (t u : Bool) → LengthSmall (cond t (cond u (Ok (128 * length (book_entries b))) (Err NotCarried)) (Err NoRoom))
    go true true = let h = entries_few b.places 256 in omega arith
    go true false = tt
    go false u = tt

-- ════ the run of a file's entries is a run of C edits
record Same (s t : List ℕ) : Type 0 where
  same : s ≡ t
  fits : bytes_fit s ≡ true

-- an edit on bytes that hold a book, and what it leaves holds one
next_fits : (s : List ℕ) (c : Call) → bytes_fit s ≡ true → bytes_fit (bytes_next s c) ≡ true
next_fits s c f = (stays s s (book_of s) c (holds_own s f)).fits

alike : Alike left_by said_to bytes_next bytes_says Same
alike =
    record {
      says_same = λ s t c r. sym (ap (λ (x : List ℕ). bytes_says x c) (sym r.same) ∙ ap (λ (e : Returned). e.answer) (through-fits s (λ b. outcome b c) r.fits));
      stays = λ s t c r. step s t c r;
    }
  where
    step : (s t : List ℕ) (c : Call) → Same s t → Same (left_by s c) (bytes_next t c)
    step s t c r =
        let e : bytes_next s c ≡ left_by s c = ap (λ (x : Returned). x.bytes) (through-fits s (λ b. outcome b c) r.fits) in
        record { same = sym e ∙ ap (λ (x : List ℕ). bytes_next x c) r.same; fits = subst (λ (x : List ℕ). bytes_fit x ≡ true) e (next_fits s c r.fits) }

module _ (s : List ℕ) (f : bytes_fit s ≡ true) (cs : List Call) where
  run_left : Same (final left_by s cs) (final bytes_next s cs)
  run_left = run_final left_by said_to bytes_next bytes_says Same alike s s cs (record { same = refl; fits = f })

  pub run_bytes : final left_by s cs ≡ final bytes_next s cs
  run_bytes = run_left.same

  pub run_said : answers left_by said_to s cs ≡ answers bytes_next bytes_says s cs
  run_said = run_answers left_by said_to bytes_next bytes_says Same alike s s cs (record { same = refl; fits = f })

  pub run_fits : bytes_fit (final bytes_next s cs) ≡ true
  run_fits = subst (λ (x : List ℕ). bytes_fit x ≡ true) run_bytes run_left.fits
