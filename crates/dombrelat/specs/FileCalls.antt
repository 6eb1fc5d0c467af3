-- What the C calls on files answer, and the lent bytes afterwards: document 02, request 6. "Refusals: 18 either file doesn't read, 19 a record the file can't carry, 20 no entry for the
-- place; 2 comes first, then 10 …, 18, 19, 20"; 25 before all others where a book is lent. Assumes nothing.
use Rattle.files.specs.declared.FileRefusal.{FileRefusal}
use Rattle.std.specs.Prelude.{ℕ, ◌≤◌, cond, List, [], ◌∷◌, leb, length, ℤ, pos, Result, Ok, Err}
use Rattle.words.specs.Signed.{signed}
use Rattle.words.specs.Runs.{put_words}
use Rattle.network.specs.Rules.{in_list}
use Rattle.book.specs.Run.{final, answers}
use Rattle.layout.specs.Bytes.{book_of, bytes_fit}
use Rattle.files.specs.Files.{reads}
use Rattle.files.specs.Force.{file_number, in_force}
use Rattle.files.specs.declared.FileRefusal.TheVariants.{BadPlace, NoRoom, Unreadable}
use Rattle.files.specs.declared.EntryFound.{EntryFound}
use Rattle.files.specs.declared.EntryFound.TheVariants.{InNight, InDay}
use Rattle.book_files.specs.Writing.{write_answer, file_left}
use Rattle.book_files.specs.Entering.{calls_in, enter_answer}
use Rattle.dombrelat.specs.Calls.{Returned, refused_with, bytes_next, bytes_says}

-- ════ a book written. "A write returns its length": no refusal's number is a multiple of 128
abbrev pub written_word : Result ℕ FileRefusal → ℤ
written_word (Ok n) = pos n
written_word (Err r) = pos (file_number r)

unfoldable pub write_call : List ℕ → List ℕ → Returned
write_call s file =
    let w = write_answer (book_of s) (length file) in
    cond (bytes_fit s) (record { answer = written_word w; bytes = file_left w (book_of s) file }) (refused_with 25 file)

-- the longest file of a book: 128 bytes for each of 256 places
abbrev pub longest_file : ℕ
longest_file = 32768

abbrev pub LengthSmall : Result ℕ FileRefusal → Type 0
LengthSmall (Ok n) = n ≤ longest_file
LengthSmall (Err r) = Unit {0}

-- ════ a file tested
unfoldable pub check_file_call : List ℕ → ℤ
check_file_call file = cond (reads file) (pos 0) (pos (file_number Unreadable))

-- ════ the entry in force: the file that has it (1 night, 2 day) and the byte where it starts, two words at the front of the lent bytes
abbrev pub found_in : ℤ → ℕ → List ℕ → Returned
found_in file at out = record { answer = pos 0; bytes = put_words out 0 (file ∷ signed at ∷ []) }

abbrev pub given_found : Result EntryFound FileRefusal → List ℕ → Returned
given_found (Ok (InNight at)) out = found_in (pos 1) at out
given_found (Ok (InDay at)) out = found_in (pos 2) at out
given_found (Err r) out = refused_with (file_number r) out

unfoldable pub found_call : List ℕ → List ℕ → ℤ → List ℕ → Returned
found_call night day place out =
    cond (in_list 256 place) (cond (leb 16 (length out)) (given_found (in_force night day place) out) (refused_with (file_number NoRoom) out)) (refused_with (file_number BadPlace) out)

-- ════ a file entered: each entry as the C call that it asks for, given the bytes that the call before it left
pub record FileEntered : Type 0 where
  pub answer : ℤ
  pub book : List ℕ
  pub answers : List ℕ

abbrev pub entered_word : Result (Unit {0}) FileRefusal → ℤ
entered_word (Ok u) = pos 0
entered_word (Err r) = pos (file_number r)

-- each is judged as a call of its own, and has an answer word of its own
abbrev pub entered_into : Result (Unit {0}) FileRefusal → List ℕ → List ℕ → List ℕ → FileEntered
entered_into (Ok u) s file before =
    record { answer = pos 0; book = final bytes_next s (calls_in file); answers = put_words before 0 (answers bytes_next bytes_says s (calls_in file)) }
entered_into (Err r) s file before = record { answer = pos (file_number r); book = s; answers = before }

unfoldable pub enter_call : List ℕ → List ℕ → List ℕ → FileEntered
enter_call s file before =
    cond (bytes_fit s) (entered_into (enter_answer file (length before)) s file before) (record { answer = pos 25; book = s; answers = before })
