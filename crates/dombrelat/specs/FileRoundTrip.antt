-- What the C call writes of a book, entered by the C call on a new book over the same stations, gives the same records, N and u, and every entry is answered 0. Over books: book_files,
-- specs/RoundTrip.antt. Assumes nothing.
use Rattle.files.specs.Statements.{AllFit}
use Rattle.std.specs.Prelude.{ℕ, zero, suc, ◌+◌, ◌*◌, ◌/◌, ◌<◌, ◌≤◌, ◌≡◌, refl, Bool, true, false, cond, List, [], ◌∷◌, ◌++◌, map, leb, length, get_or, take, drop, ℤ, pos, nat_abs, Ok, Err}
use Rattle.std.proofs.Common.{sym, ap, ◌∙◌, subst, arith, leb-true, le-leb, drop_at, SFits}
use Rattle.std.proofs.lemmas.List.{length-map}
use Rattle.std.specs.Int.{w64}
use Rattle.words.specs.Words.{word_at}
use Rattle.words.specs.Runs.{words_at, put_words}
use Rattle.words.specs.RunLaws.{run_at}
use Rattle.network.specs.Stations.{network_of}
use Rattle.network.specs.declared.Network.{Network}
use Rattle.book.specs.declared.Book.{Book}
use Rattle.book.specs.Book.{opened_book, book_next, book_says}
use Rattle.book.specs.Run.{final, answers, length-answers}
use Rattle.layout.specs.Bytes.{book_of, bytes_fit}
use Rattle.layout.specs.CodecLaws.{fits-sound}
use Rattle.files.specs.Files.{file_of, reads, entries_of}
use Rattle.files.specs.declared.FileRefusal.TheVariants.{NoRoom, NotCarried}
use Rattle.files.proofs.FileLaws.{fit_long, length_file, file_front, written-reads, written-entries}
use Rattle.book_files.specs.Writing.{book_entries, all_carried, write_answer, file_left}
use Rattle.book_files.specs.WritingLaws.{entries_few}
use Rattle.book_files.specs.Entering.{call_in, calls_in, enter_answer}
use Rattle.book_files.specs.Carried.{entries_fit_lem}
use Rattle.book_files.specs.RoundTrip.{book_calls, restored, RestoresBook, restores}
use Rattle.dombrelat.specs.Calls.{Returned, refused_with, bytes_next, bytes_says, open_call}
use Rattle.dombrelat.specs.FileCalls.{FileEntered, written_word, write_call, entered_into, enter_call}
use Rattle.dombrelat.specs.Demand3.{bytes_after, bytes_answers}
use Rattle.dombrelat.specs.Demand3Holds.{opened-fits-next, after_holds, after-said}

-- ════ the statement
-- n bytes were written of the book in s; they are a file, and its entries are those of the book
pub record WroteFile (s file : List ℕ) (n : ℕ) : Type 0 where
  pub long : n ≡ 128 * length (book_entries (book_of s))
  pub front : take n (write_call s file).bytes ≡ file_of (book_entries (book_of s))
  pub beyond : drop n (write_call s file).bytes ≡ drop n file
  pub reads : reads (take n (write_call s file).bytes) ≡ true
  pub entries : entries_of (take n (write_call s file).bytes) ≡ book_entries (book_of s)

pub record RoundTrip (s file list t before : List ℕ) (k : ℕ) : Type 0 where
  pub wrote : WroteFile s file (128 * k)
  pub accepted : (enter_call (open_call list t).bytes (take (128 * k) (write_call s file).bytes) before).answer ≡ pos 0
  pub answered : (i : ℕ) → i < k → word_at (enter_call (open_call list t).bytes (take (128 * k) (write_call s file).bytes) before).answers (8 * i) ≡ pos 0
  pub places : (book_of (enter_call (open_call list t).bytes (take (128 * k) (write_call s file).bytes) before).book).places ≡ (book_of s).places
  pub normals : (book_of (enter_call (open_call list t).bytes (take (128 * k) (write_call s file).bytes) before).book).normals ≡ (book_of s).normals

-- k records were written; the new book, in t, is opened on a list of the same stations, and there is room for k answers
abbrev pub FileRoundTrip : Type 0
FileRoundTrip =
    (s file list t before : List ℕ) (k : ℕ) → (write_call s file).answer ≡ pos (128 * k) → (open_call list t).answer ≡ pos 0
    → network_of (words_at list 0 (length list / 8)) ≡ (book_of s).network → 8 * k ≤ length before → RoundTrip s file list t before k

-- ════ a length as the answer: nothing was refused
record Accepted (s file : List ℕ) (k : ℕ) : Type 0 where
  fits : bytes_fit s ≡ true
  room : 128 * length (book_entries (book_of s)) ≤ length file
  carried : all_carried (book_of s) ≡ true
  count : k ≡ length (book_entries (book_of s))
  bytes : (write_call s file).bytes ≡ file_of (book_entries (book_of s)) ++ drop (128 * k) file

no_length : (n k : ℕ) {X : Type 0} → 0 < n → n < 128 → pos n ≡ pos (128 * k) → X
no_length n k h l e = absurd (let z : n ≡ 128 * k = ap nat_abs e in omega arith)

accepted_write : (s file : List ℕ) (k : ℕ) → (write_call s file).answer ≡ pos (128 * k) → Accepted s file k
unfolding write_call write_answer file_left
accepted_write s file k a = go (bytes_fit s) (leb (128 * length (book_entries (book_of s))) (length file)) (all_carried (book_of s)) refl refl refl a
  where
    wrote : (t u v : Bool) → Returned
    wrote t u v =
        let w = cond u (cond v (Ok (128 * length (book_entries (book_of s)))) (Err NotCarried)) (Err NoRoom) in
        cond t (record { answer = written_word w; bytes = file_left w (book_of s) file }) (refused_with 25 file)

    go : (t u v : Bool) → bytes_fit s ≡ t → leb (128 * length (book_entries (book_of s))) (length file) ≡ u → all_carried (book_of s) ≡ v → (wrote t u v).answer ≡ pos (128 * k) → Accepted s file k
    go true true true f r c e =
        let n : 128 * length (book_entries (book_of s)) ≡ 128 * k = ap nat_abs e in
        record {
          fits = f;
          room = leb-true (128 * length (book_entries (book_of s))) (length file) r;
          carried = c;
          count = omega arith;
          bytes = rw (f, r, c) (ap (λ (m : ℕ). file_of (book_entries (book_of s)) ++ drop m file) n);
        }
    go true true false f r c e = no_length 19 k (omega arith) (omega arith) e
    go true false v f r c e = no_length 10 k (omega arith) (omega arith) e
    go false u v f r c e = no_length 25 k (omega arith) (omega arith) e

module _ (s file : List ℕ) (k : ℕ) (a : (write_call s file).answer ≡ pos (128 * k)) where
  ok : Accepted s file k
  ok = accepted_write s file k a

  abbrev es : List (List ℤ)
  es = book_entries (book_of s)

  fit : AllFit es
  fit = entries_fit_lem (book_of s) (fits-sound s ok.fits) ok.carried

  front : take (128 * k) (write_call s file).bytes ≡ file_of es
  front =
      let n : 128 * k ≡ 128 * length es = let c = ok.count in omega arith in
      ap (λ (m : ℕ). take m (write_call s file).bytes) n ∙ ap (take (128 * length es)) ok.bytes ∙ file_front es (drop (128 * k) file) (fit_long es fit)

  pub wrote_file : WroteFile s file (128 * k)
  wrote_file =
      let c = ok.count in
      let few = entries_few (book_of s).places 256 in
      record {
        long = omega arith;
        front = front;
        beyond = ap (drop (128 * k)) ok.bytes ∙ drop_at (file_of es) (drop (128 * k) file) (128 * k) (length_file es (fit_long es fit) ∙ omega arith);
        reads = ap reads front ∙ written-reads es fit (omega arith);
        entries = ap entries_of front ∙ written-entries es fit;
      }

-- ════ the file entered
calls_of_lem : (f : List ℕ) (es : List (List ℤ)) → entries_of f ≡ es → calls_in f ≡ map call_in es
unfolding calls_in
calls_of_lem f rows e = ap (map call_in) e

-- answers as numbers, and as words
words_said : {S C : Type 0} (next : S → C → S) (says : S → C → ℕ) (s : S) (cs : List C) (i : ℕ) → get_or (answers next (λ x c. pos (says x c)) s cs) i (pos 0) ≡ pos (get_or (answers next says s cs) i 0)
unfolding answers
words_said next says s [] i = refl
words_said next says s (c ∷ cs) zero = refl
words_said next says s (c ∷ cs) (suc i) = words_said next says (next s c) cs i

enter_done : (s file before : List ℕ) → bytes_fit s ≡ true → reads file ≡ true → 8 * (length file / 128) ≤ length before → enter_call s file before ≡ entered_into (Ok tt) s file before
unfolding enter_call enter_answer
enter_done s file before f r h = rw (f, le-leb (8 * (length file / 128)) (length before) h, r)

-- each answer word is 0
answered_at : (list t before f : List ℕ) (b : Book) → (open_call list t).answer ≡ pos 0 → network_of (words_at list 0 (length list / 8)) ≡ b.network → calls_in f ≡ book_calls b → RestoresBook b
    → 8 * length (calls_in f) ≤ length before → (i : ℕ) → i < length (calls_in f) → word_at (put_words before 0 (bytes_answers list t (calls_in f))) (8 * i) ≡ pos 0
answered_at list t before f b o net calls again room i h =
    let l = bytes_answers list t (calls_in f) in
    let n : length l ≡ length (calls_in f) = length-answers bytes_next bytes_says (open_call list t).bytes (calls_in f) in
    let zero-at : get_or l i (pos 0) ≡ pos 0 =
    ap (λ (x : List ℤ). get_or x i (pos 0)) (after-said list t o (calls_in f) ∙ (λ j. answers book_next (λ x c. pos (book_says x c)) (opened_book (net j)) (calls j)))
    ∙ words_said book_next book_says (opened_book b.network) (book_calls b) i
    ∙ ap pos (again.accepted i) in
    let here : 8 * i ≡ 0 + 8 * i = omega arith in
    ap (word_at (put_words before 0 l)) here ∙ run_at before 0 l i (omega arith) (omega arith) (subst (SFits w64) (sym zero-at) (record { sfits = omega arith })) ∙ zero-at

pub file_round_trip : FileRoundTrip
file_round_trip s file list t before k w o net room =
    let b = book_of s in
    let x = ok s file k w in
    let wrote = wrote_file s file k w in
    let f = take (128 * k) (write_call s file).bytes in
    let long : length f ≡ 128 * k = ap length wrote.front ∙ length_file (book_entries b) (fit_long (book_entries b) (fit s file k w)) ∙ sym wrote.long in
    let done = enter_done (open_call list t).bytes f before (opened-fits-next list t o) wrote.reads (omega arith) in
    let calls : calls_in f ≡ book_calls b = calls_of_lem f (book_entries b) wrote.entries in
    let count : length (calls_in f) ≡ k = ap length calls ∙ length-map (book_entries b) call_in ∙ sym x.count in
    let again = restores b (fits-sound s x.fits) x.carried in
    let holds : book_of (bytes_after list t (calls_in f)) ≡ restored b =
    (after_holds list t o (calls_in f)).reads ∙ ap (λ (n : Network). final book_next (opened_book n) (calls_in f)) net ∙ ap (final book_next (opened_book b.network)) calls in
    let left : book_of (enter_call (open_call list t).bytes f before).book ≡ restored b = ap (λ (e : FileEntered). book_of e.book) done ∙ holds in
    record {
      wrote = wrote;
      accepted = ap (λ (e : FileEntered). e.answer) done;
      answered = λ i h. ap (λ (e : FileEntered). word_at e.answers (8 * i)) done ∙ answered_at list t before f b o net calls again (omega arith) i (omega arith);
      places = ap (λ (y : Book). y.places) left ∙ again.places;
      normals = ap (λ (y : Book). y.normals) left ∙ again.normals;
    }
