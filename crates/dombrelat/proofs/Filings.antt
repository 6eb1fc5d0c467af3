-- The cases of the calls on files. Assumes nothing.
use Rattle.files.specs.declared.FileRefusal.{FileRefusal}
use Rattle.std.specs.Prelude.{Result, Ok, Err}
use Prim.Native.Nat.{ℕ, ◌<◌, ◌≤◌}
use mathlib.Core.Path.{◌≡◌, refl, sym, ap, ◌∙◌}
use mathlib.Core.Bool.{true, false}
use mathlib.Core.List.{List, [], ◌∷◌}
use borrow.Author.Tests.{le-leb, lt-leb}
use lib.ListN.{length}
use lib.IntN.{ℤ, pos}
use Rattle.words.specs.Words.{put_word}
use Rattle.words.specs.Runs.{put_words}
use Rattle.network.specs.Rules.{in_list}
use Rattle.layout.specs.Bytes.{book_of, bytes_fit}
use Rattle.files.specs.Files.{reads}
use Rattle.files.specs.Force.{in_force}
use Rattle.files.specs.declared.EntryFound.{EntryFound}
use Rattle.book_files.specs.Writing.{write_answer, file_left}
use Rattle.book_files.specs.Entering.{calls_in, enter_answer, book_left, answers_left}
use Rattle.dombrelat.specs.Calls.{Returned}
use Rattle.dombrelat.specs.FileCalls.{FileEntered, written_word, write_call, check_file_call, given_found, found_call, entered_word, entered_into, enter_call}
use Rattle.dombrelat.specs.FileCallLaws.{run_bytes, run_said}

-- an answer and the bytes left are those of a call
abbrev pub Gives : ℤ → List ℕ → Returned → Type 0
Gives r t e = (r ≡ e.answer) × (t ≡ e.bytes)

-- ════ a book written
module _ (s file : List ℕ) where
  pub write_unfit : bytes_fit s ≡ false → Gives (pos 25) file (write_call s file)
  unfolding write_call
  write_unfit e = rw e (refl, refl)

  pub write_fit : {w : Result ℕ FileRefusal} {r : ℤ} {t : List ℕ} → bytes_fit s ≡ true → w ≡ write_answer (book_of s) (length file) → r ≡ written_word w → t ≡ file_left w (book_of s) file → Gives r t (write_call s file)
  unfolding write_call
  write_fit e f g h = rw e (g ∙ ap written_word f, h ∙ ap (λ (w : Result ℕ FileRefusal). file_left w (book_of s) file) f)

-- ════ a file tested
module _ (file : List ℕ) where
  pub check_reads : reads file ≡ true → pos 0 ≡ check_file_call file
  unfolding check_file_call
  check_reads e = rw e

  pub check_unread : reads file ≡ false → pos 18 ≡ check_file_call file
  unfolding check_file_call
  check_unread e = rw e

-- ════ the entry in force
pub put_both : (out : List ℕ) (a b : ℤ) → put_word (put_word out 0 a) 8 b ≡ put_words out 0 (a ∷ b ∷ [])
unfolding put_words
put_both out a b = refl

module _ (night day : List ℕ) (p : ℤ) (out : List ℕ) where
  pub found_place : in_list 256 p ≡ false → Gives (pos 2) out (found_call night day p out)
  unfolding found_call
  found_place e = rw e (refl, refl)

  pub found-room : in_list 256 p ≡ true → length out < 16 → Gives (pos 10) out (found_call night day p out)
  unfolding found_call
  found-room e h = rw (e, lt-leb 16 (length out) h) (refl, refl)

  pub found-given : {f : Result EntryFound FileRefusal} {r : ℤ} {t : List ℕ} → in_list 256 p ≡ true → 16 ≤ length out → f ≡ in_force night day p → Gives r t (given_found f out) → Gives r t (found_call night day p out)
  unfolding found_call
  found-given e h q g = rw (e, le-leb 16 (length out) h, sym q) g

-- ════ a file entered
abbrev pub Enters : ℤ → List ℕ → List ℕ → FileEntered → Type 0
Enters r t a e = (r ≡ e.answer) × ((t ≡ e.book) × (a ≡ e.answers))

module _ (s file before : List ℕ) where
  pub enter_unfit : bytes_fit s ≡ false → Enters (pos 25) s before (enter_call s file before)
  unfolding enter_call
  enter_unfit e = rw e (refl, (refl, refl))

  enter_into : (e : Result (Unit {0}) FileRefusal) {r : ℤ} {t a : List ℕ} → bytes_fit s ≡ true → r ≡ entered_word e → t ≡ book_left e s file → a ≡ answers_left e s file before → Enters r t a (entered_into e s file before)
  unfolding book_left answers_left
  enter_into (Ok u) f g h k = (g, (h ∙ run_bytes s f (calls_in file), k ∙ ap (put_words before 0) (run_said s f (calls_in file))))
  enter_into (Err x) f g h k = (g, (h, k))

  pub enter_fit : {e : Result (Unit {0}) FileRefusal} {r : ℤ} {t a : List ℕ} → bytes_fit s ≡ true → e ≡ enter_answer file (length before) → r ≡ entered_word e → t ≡ book_left e s file → a ≡ answers_left e s file before
      → Enters r t a (enter_call s file before)
  unfolding enter_call
  enter_fit {e} f q g h k = rw (f, sym q) (enter_into e f g h k)
