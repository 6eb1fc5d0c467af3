-- Laws of a file entered: the call of an entry by its kind, one entry more, and the answer of the whole. Assumes nothing.
use Rattle.std.specs.Prelude.{ℕ, ◌+◌, ◌*◌, ◌/◌, ◌<◌, ◌≤◌, ◌≡◌, true, false, get_or, ℤ, pos, Ok, Err}
use Rattle.std.proofs.Math.Path.{refl, sym, ap}
use Rattle.std.proofs.Common.{◌∙◌, add-one, le-leb, take_all, length-take-le}
use mathlib.Core.List.{List, [], ◌∷◌}
use native.Mathlib.Omega.{arith}
use Rattle.std.proofs.lemmas.Bool.{lt-leb}
use Rattle.std.proofs.Math.ListN.{length, take, get_or-map}
use Rattle.std.proofs.lemmas.List.{length-map}
use Rattle.std.proofs.Math.Seq.{take-suc}
use Rattle.words.specs.Signed.{eq_z}
use Rattle.words.specs.Words.{put_word}
use Rattle.words.specs.WordLaws.{length-word}
use Rattle.words.specs.Runs.{words_at, put_words}
use Rattle.words.specs.RunLaws.{length_run}
use Rattle.network.specs.RecordWords.{record_in}
use Rattle.network.specs.declared.Record.{Record}
use Rattle.book.specs.declared.Change.TheVariants.{Enter, Strike}
use Rattle.book.specs.declared.Call.{Call}
use Rattle.book.specs.declared.Call.TheVariants.{Edit}
use Rattle.book.specs.CallLaws.{unless-either}
use Rattle.book.specs.SoundLaws.{refusal-small}
use Rattle.book.specs.Book.{book_says, outcome}
use Rattle.book.specs.Run.{final, final-suc, length-answers, answer_at}
use Rattle.layout.specs.Layout.{book_words}
use Rattle.layout.specs.Bytes.{book_of, put_book, bytes_fit}
use Rattle.lent_edits.specs.LentEdits.{Applies}
use Rattle.files.specs.BytesLaws.{put_append}
use Rattle.files.specs.Files.{reads, entries_of}
use Rattle.files.proofs.FileLaws.{length-entries, entry_at}
use Rattle.files.specs.declared.FileRefusal.{FileRefusal}
use Rattle.files.specs.declared.FileRefusal.TheVariants.{NoRoom, Unreadable}
use Rattle.book_files.specs.Entering.{record_words_in, change_in, call_in, calls_in, left_by, said_to, entered_book, entered_answers, enter_answer, book_left, answers_left}

module _ (w : List ℤ) where
  pub call_strikes : eq_z (get_or w 0 (pos 0)) (pos 3) ≡ true → Edit (get_or w 1 (pos 0)) Strike ≡ call_in w
  unfolding change_in call_in
  call_strikes e = rw e

  pub call_enters : {r : Record} → eq_z (get_or w 0 (pos 0)) (pos 3) ≡ false → r ≡ record_in (record_words_in w) 0 → Edit (get_or w 1 (pos 0)) (Enter r) ≡ call_in w
  unfolding change_in call_in
  call_enters e q = rw (e, q)

-- the trailer is not looked at
pub call_thirteen : (f : List ℕ) (at : ℕ) → call_in (words_at f at 16) ≡ call_in (words_at f at 13)
unfolding call_in change_in record_words_in words_at
call_thirteen f at = refl

-- ════ the calls of a file, one by one
length-calls : (file : List ℕ) → length (calls_in file) ≡ length file / 128
unfolding calls_in
length-calls file = length-map (entries_of file) call_in ∙ length-entries file

call_at_lem : (file : List ℕ) (i : ℕ) → i < length file / 128 → get_or (calls_in file) i (call_in []) ≡ call_in (words_at file (128 * i) 16)
unfolding calls_in
call_at_lem file i h = get_or-map call_in (entries_of file) i [] ∙ ap call_in (entry_at file i h) ∙ sym (call_thirteen file (128 * i))

-- ════ one call on a book's bytes: its number is small, and the bytes stay as many
module _ {t t' : List ℕ} {c : Call} {n : ℕ} (p : Applies t c n t') where
  pub applied_small : n ≤ 9
  applied_small = let h = refusal-small (book_of t) c (outcome (book_of t) c) refl in omega (arith, p.number, h)

  pub applied_long : length t' ≡ length t
  applied_long =
      ap length p.bytes
      ∙ unless-either (λ (x : List ℕ). length x ≡ length t) (book_says (book_of t) c) t (put_book t (outcome (book_of t) c).book) refl (λ e. length_run t 0 (book_words (outcome (book_of t) c).book))

-- ════ after the first i entries: the book's bytes t, and the answers a
pub record EnteredSome (s file before : List ℕ) (i : ℕ) (t a : List ℕ) : Type 0 where
  pub fits : bytes_fit t ≡ true
  pub book : t ≡ final left_by s (take i (calls_in file))
  pub said : a ≡ put_words before 0 (take i (entered_answers s file))
  pub room : length t ≡ length s
  pub long : length a ≡ length before

module _ (s file before : List ℕ) where
  pub entered-none : bytes_fit s ≡ true → EnteredSome s file before 0 s before
  unfolding final put_words
  entered-none f = record { fits = f; book = refl; said = refl; room = refl; long = refl }

  module _ (i : ℕ) (h : i < length file / 128) {t a : List ℕ} (e : EnteredSome s file before i t a) where
    inside : i < length (calls_in file)
    inside = let z = length-calls file in omega arith

    answer-is : said_to t (call_in (words_at file (128 * i) 16)) ≡ get_or (entered_answers s file) i (pos 0)
    answer-is =
        ap (λ (x : List ℕ). said_to x (call_in (words_at file (128 * i) 16))) e.book
        ∙ ap (said_to (final left_by s (take i (calls_in file)))) (sym (call_at_lem file i h))
        ∙ sym (answer_at left_by said_to s (calls_in file) i (pos 0) (call_in []) inside)

    next-is : left_by t (call_in (words_at file (128 * i) 16)) ≡ final left_by s (take (i + 1) (calls_in file))
    next-is =
        ap (λ (x : List ℕ). left_by x (call_in (words_at file (128 * i) 16))) e.book
        ∙ ap (left_by (final left_by s (take i (calls_in file)))) (sym (call_at_lem file i h))
        ∙ sym (ap (λ (k : ℕ). final left_by s (take k (calls_in file))) (add-one i) ∙ final-suc left_by s (calls_in file) i (call_in []) inside)

    -- the answers with one more
    said-is : {z : ℤ} → z ≡ get_or (entered_answers s file) i (pos 0) → put_word a (8 * i) z ≡ put_words before 0 (take (i + 1) (entered_answers s file))
    unfolding put_words
    said-is {z} q =
        let l = entered_answers s file in
        let n : length l ≡ length file / 128 = length-answers left_by said_to s (calls_in file) ∙ length-calls file in
        let m : 0 + 8 * length (take i l) ≡ 8 * i = ap (λ (k : ℕ). 0 + 8 * k) (length-take-le i l (omega arith)) ∙ omega arith in
        ap (λ (x : List ℕ). put_word x (8 * i) z) e.said
        ∙ ap (put_word (put_words before 0 (take i l)) (8 * i)) q
        ∙ ap (λ (k : ℕ). put_word (put_words before 0 (take i l)) k (get_or l i (pos 0))) (sym m)
        ∙ sym (put_append before 0 (take i l) (get_or l i (pos 0) ∷ []))
        ∙ ap (put_words before 0) (sym (ap (λ (k : ℕ). take k l) (add-one i) ∙ take-suc l i (pos 0) (omega arith)))

    pub entered-more : {c : Call} {n : ℕ} {t' a' : List ℕ} → c ≡ call_in (words_at file (128 * i) 16) → Applies t c n t' → a' ≡ put_word a (8 * i) (pos n) → EnteredSome s file before (i + 1) t' a'
    entered-more {c} {n} q p w =
        record {
          fits = p.fits;
          book = p.bytes ∙ ap (left_by t) q ∙ next-is;
          said = w ∙ said-is (ap pos p.number ∙ ap (said_to t) q ∙ answer-is);
          room = applied_long p ∙ e.room;
          long = ap length w ∙ length-word a (8 * i) (pos n) ∙ e.long;
        }

  pub entered_all : {i : ℕ} {t a : List ℕ} → i ≡ length file / 128 → EnteredSome s file before i t a → (t ≡ entered_book s file) × (a ≡ put_words before 0 (entered_answers s file))
  entered_all {i} q e =
      let n = length-calls file in
      let m : length (entered_answers s file) ≡ length file / 128 = length-answers left_by said_to s (calls_in file) ∙ n in
      (e.book ∙ ap (final left_by s) (take_all i (calls_in file) (omega arith)), e.said ∙ ap (put_words before 0) (take_all i (entered_answers s file) (omega arith)))

-- ════ the answer of the whole
module _ (file : List ℕ) (room : ℕ) where
  pub entered-room : room / 8 < length file / 128 → Err NoRoom ≡ enter_answer file room
  unfolding enter_answer
  entered-room h = rw (lt-leb (8 * (length file / 128)) room (omega arith))

  pub entered_unread : length file / 128 ≤ room / 8 → reads file ≡ false → Err Unreadable ≡ enter_answer file room
  unfolding enter_answer
  entered_unread h e = rw (le-leb (8 * (length file / 128)) room (omega arith), e)

  pub entered_done : length file / 128 ≤ room / 8 → reads file ≡ true → Ok tt ≡ enter_answer file room
  unfolding enter_answer
  entered_done h e = rw (le-leb (8 * (length file / 128)) room (omega arith), e)

pub left_stays : (r : FileRefusal) (s file before : List ℕ) → (s ≡ book_left (Err r) s file) × (before ≡ answers_left (Err r) s file before)
unfolding book_left answers_left
left_stays r s file before = (refl, refl)

pub left_done : (s file before : List ℕ) {t a : List ℕ} → (t ≡ entered_book s file) × (a ≡ put_words before 0 (entered_answers s file)) → (t ≡ book_left (Ok tt) s file) × (a ≡ answers_left (Ok tt) s file before)
unfolding book_left answers_left
left_done s file before e = e
