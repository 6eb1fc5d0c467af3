-- The steps of a line as the code takes them: the state after each is what the run's definitions say. Assumes nothing.
use Rattle.std.specs.Prelude.{ℕ, suc, ◌+◌, ◌-◌, ◌≤◌, ◌<◌, ◌≡◌, Bool, ◌&&◌, Option, eqb, take, drop, ℤ}
use Rattle.std.proofs.Math.Path.{refl, sym, ap}
use Rattle.std.proofs.Common.{◌∙◌, arith, append_assoc, length-append, take_at, drop_at, drop-drop}
use Rattle.std.proofs.Math.Bool.{true, false, cond, not}
use mathlib.Core.List.{List, [], ◌++◌}
use borrow.Rule.Slice.PartMut.{put_mid}
use borrow.Author.Tests.{le-leb, lt-leb, eqb-true, not-true}
use Rattle.std.proofs.Math.ListN.{length}
use Rattle.std.proofs.lemmas.List.Edits.{sets}
use Rattle.std.proofs.Math.Seq.{sets-eq, length-take-le}
use Rattle.words.specs.Bools.{and_left, and_right}
use Rattle.network.specs.StationWords.{station_words}
use Rattle.network.specs.declared.Station as station
use Rattle.book.specs.declared.Book.{Book}
use Rattle.book.specs.Outcome.{Outcome}
use Rattle.book.specs.Book as book
use Rattle.layout.specs.Bytes.{book_of, bytes_fit}
use Rattle.lent_edits.specs.LentEdits.{Opens}
use Rattle.text.specs.Fields.{FieldNumbers}
use Rattle.text.specs.Lines.{KeptLine}
use Rattle.text.specs.Writing.{Written, written_as, nothing, ◌then◌}
use Rattle.commands.specs.declared.Command.{Command}
use Rattle.commands.specs.declared.Command.TheVariants.{Station, Call, Corrections, Matrix, Unreadable}
use Rattle.commands.specs.Commands.{is_station_line, Obeys}
use Rattle.commands.specs.Brings.{SolutionPart, brings, Brought, other, these}
use Rattle.printing.specs.Rooms.{message_room, refused_room, line_room}
use Rattle.input_lines.specs.declared.Phase as code-phase
use Rattle.input_lines.specs.declared.Phase.TheVariants.{Unopened, Opened, Ended}
use Rattle.input_lines.specs.declared.State.{State}
use Rattle.input_lines.specs.declared.LineRead.{LineRead}
use Rattle.input_lines.specs.Runs.{opened, ended, given, Run, list_room, noted, phase_with, phase_opened, opening_answer, opening_says, open_run, before_line, before_line_says, is_unopened, asked, read_after, unedited, edits, phase_after, given_by, command_says, phase_says, obeyed, next, obeyed_says, says}
use Rattle.input_lines.specs.States.{phase_of, given_of, run_of, unopened_phase, opened_phase, ended_phase, phase_at, given_length, Ready, opened_with, EditLeaves, Noted, given_count, Reads, RunsTo, LineBegins}

-- ════ text written after the front of a buffer
module _ {l t m : List ℕ} {p q : ℕ} (w : Written l p t q m) (room : q ≤ length l) where
  fits : p + length t ≤ length l
  fits = let e = w.past in omega arith

  pub written_front : take q m ≡ take p l ++ t
  written_front =
      rw (w.leaves, w.past, sets-eq t l p fits)
      (take_at (take p l ++ t) (drop (p + length t) l) (p + length t) (rw (length-append, length-take-le p l (let f = fits in omega arith))))

  pub written-beyond : drop q m ≡ drop q l
  written-beyond =
      rw (w.leaves, w.past, sets-eq t l p fits)
      (drop_at (take p l ++ t) (drop (p + length t) l) (p + length t) (rw (length-append, length-take-le p l (let f = fits in omega arith))))

pub drop_further : (a b : List ℕ) (p q : ℕ) → p ≤ q → drop p a ≡ drop p b → drop q a ≡ drop q b
drop_further a b p q h e =
    let k : p + (q - p) ≡ q = omega arith in
    rw (← k, ← drop-drop (q - p) p a, ← drop-drop (q - p) p b, e)

-- ════ stations
pub four : (s : station.Station) → length (station_words s) ≡ 4
unfolding station_words
four s = refl

module _ (list : List ℤ) (words : ℕ) (s : station.Station) (room : list_room ≤ length list) where
  pub note_room : (after : List ℤ) → words + 4 ≤ list_room → after ≡ sets list words (station_words s) → Noted list words s (words + 4) after
  unfolding noted
  note_room after h e =
      record {
        leaves =
            rw (e, sets-eq (station_words s) list words (rw (four s) (omega arith)), length-take-le words list (omega arith), le-leb (words + 4) list_room h)
            (take_at (take words list ++ station_words s) (drop (words + length (station_words s)) list) (words + 4) (rw (length-append, length-take-le words list (omega arith), four s)));
        few = omega arith;
      }

  pub note_full : list_room < words + 4 → words ≤ list_room → Noted list words s words list
  unfolding noted
  note_full h k = record { leaves = rw (length-take-le words list (omega arith), lt-leb (words + 4) list_room h); few = k }

-- the four words from `at` on overwritten by those of a station
pub put_four : (l : List ℤ) (at k : ℕ) (s : station.Station) → k ≡ 4 → at + 4 ≤ length l → put_mid at k l (station_words s) ≡ sets l at (station_words s)
put_four l at k s e h = rw (e, sets-eq (station_words s) l at (rw (four s) h), four s, drop-drop 4 at l) (sym (append_assoc (take at l) (station_words s) (drop (at + 4) l)))

-- ════ what a line brought
module _ {part : SolutionPart} {most : ℕ} {c : Command} {ns : FieldNumbers} {l after : List ℤ} (b : Brought part most c ns l after) (room : most ≤ length l) (g : Option ℕ) where
  pub brought_given : given_of (given_count part g c) after ≡ cond (brings c part) (given_by ns) (given_of g l)
  unfolding given_of given_by
  brought_given = by b
    where
      by : Brought part most c ns l after → given_of (given_count part g c) after ≡ cond (brings c part) (given_by ns) (given_of g l)
      by (other e q) = rw (e, q)
      by (these vs e n m q h) =
          rw (e, n, m, q)
          (ap given (rw (sets-eq vs l 0 (omega arith)) (take_at vs (drop (0 + length vs) l) (length vs) refl)))

  pub brought_few : given_length g ≤ most → given_length (given_count part g c) ≤ most
  brought_few few = by b
    where
      by : Brought part most c ns l after → given_length (given_count part g c) ≤ most
      by (other e q) = rw e few
      by (these vs e n m q h) = rw (e, m) h

-- the same, with the test for S lines as the code has it
pub asked_in : (read : ℕ) {u v : Bool} {k : KeptLine} {x m : List ℤ} {c : Command} {xs ms : List ℤ} → u ≡ v → Obeys read u k x m c xs ms → Obeys read v k x m c xs ms
asked_in read e o = rw e at o

-- ════ phases
pub unopened_is : (p : code-phase.Phase) (b : Book) → is_unopened (phase_of p b) ≡ unopened_phase p
unfolding is_unopened phase_of
unopened_is Unopened b = refl
unopened_is Opened b = refl
unopened_is Ended b = refl

-- what a line asks for in a phase: an edit where there is a book, else nothing
phase_edited : (p : code-phase.Phase) (b : Book) (c : Command) → phase_of p (cond (opened_phase p) (edits b c) (unedited b)).book ≡ phase_after (phase_of p b) c
unfolding phase_of phase_after
phase_edited Unopened b c = refl
phase_edited Opened b c = refl
phase_edited Ended b c = refl

message_is : (p : code-phase.Phase) (b : Book) (c : Command) (k : ℕ) → cond (ended_phase p) [] (command_says k (cond (opened_phase p) (edits b c) (unedited b)).refusal c) ≡ phase_says (phase_of p b) k c
unfolding phase_of phase_says
message_is Unopened b c k = refl
message_is Opened b c k = refl
message_is Ended b c k = refl

-- ════ the opening
phase_with_lem : (n : ℕ) (b : Book) (e : Outcome) → n ≡ e.refusal → (n ≡ 0 → b ≡ e.book) → phase_of (phase_at n) b ≡ phase_with e
unfolding phase_of
phase_with_lem n b e q r = rw (← q) (by (eqb n 0) refl)
  where
    by : (t : Bool) → eqb n 0 ≡ t → phase_of (cond t Opened Ended) b ≡ cond t (opened e.book) ended
    by true z = ap opened (r (eqb-true n 0 z))
    by false z = refl

unopened_only : (p : code-phase.Phase) → unopened_phase p ≡ true → p ≡ Unopened
unopened_only Unopened e = refl
unopened_only Opened e = let z : true ≡ false = sym e in cc
unopened_only Ended e = let z : true ≡ false = sym e in cc

opened-stays : (words : List ℤ) (p : code-phase.Phase) (b : Book) → unopened_phase p ≡ false → phase_opened words (phase_of p b) ≡ phase_of p b
unfolding phase_of phase_opened
opened-stays words Unopened b e = let z : true ≡ false = e in cc
opened-stays words Opened b e = refl
opened-stays words Ended b e = refl

opened-silent : (words : List ℤ) (p : code-phase.Phase) (b : Book) → unopened_phase p ≡ false → opening_says words (phase_of p b) ≡ []
unfolding phase_of opening_says
opened-silent words Unopened b e = let z : true ≡ false = e in cc
opened-silent words Opened b e = refl
opened-silent words Ended b e = refl

module _ (s : State) (b : Book) (list x m : List ℤ) where
  -- an unopened state is opened
  module _ (u : unopened_phase s.phase ≡ true) {before after : List ℕ} {n : ℕ} (o : Opens (take s.words list) before n after) where
    pub open_run_lem : run_of (opened_with s n) (book_of after) list x m ≡ open_run (run_of s b list x m)
    unfolding phase_of phase_opened
    open_run_lem = let p = phase_with_lem n (book_of after) (book.opening (take s.words list)) o.number o.reads in rw (unopened_only s.phase u, p)

    pub open_says : opening_answer n ≡ opening_says (take s.words list) (phase_of s.phase b)
    unfolding phase_of opening_says
    open_says = rw (unopened_only s.phase u, o.number)

  -- a line begins in this state
  module _ (line : List ℕ) where
    module _ (t : (unopened_phase s.phase && not (is_station_line line)) ≡ true) {before after : List ℕ} {n : ℕ} (o : Opens (take s.words list) before n after) where
      u : unopened_phase s.phase ≡ true
      u = and_left (unopened_phase s.phase) _ t

      no_station : is_station_line line ≡ false
      no_station = not-true (is_station_line line) (and_right (unopened_phase s.phase) _ t)

      begin_open : run_of (opened_with s n) (book_of after) list x m ≡ before_line (run_of s b list x m) line
      unfolding before_line
      begin_open = open_run_lem u o ∙ rw no_station

      begin_says : opening_answer n ≡ before_line_says (run_of s b list x m) line
      unfolding before_line_says
      begin_says = open_says u o ∙ rw no_station

    module _ (t : (unopened_phase s.phase && not (is_station_line line)) ≡ false) where
      begin_stay : run_of s b list x m ≡ before_line (run_of s b list x m) line
      unfolding before_line
      begin_stay = by (is_station_line line) (unopened_phase s.phase) refl t
        where
          by : (i u : Bool) → unopened_phase s.phase ≡ u → (u && not i) ≡ false → run_of s b list x m ≡ cond i (run_of s b list x m) (open_run (run_of s b list x m))
          by true u e q = refl
          by false true e q = let z : true ≡ false = q in cc
          by false false e q = let p = opened-stays (take s.words list) s.phase b e in rw p

      begin_silent : [] ≡ before_line_says (run_of s b list x m) line
      unfolding before_line_says
      begin_silent = by (is_station_line line) (unopened_phase s.phase) refl t
        where
          by : (i u : Bool) → unopened_phase s.phase ≡ u → (u && not i) ≡ false → [] ≡ cond i [] (opening_says (take s.words list) (phase_of s.phase b))
          by true u e q = refl
          by false true e q = let z : true ≡ false = q in cc
          by false false e q = sym (opened-silent (take s.words list) s.phase b e)

-- ════ what the code keeps up
pub ready-open :
    {s : State} {bytes after : List ℕ} {list x m : List ℤ} {n : ℕ} →
    Ready s bytes list x m →
    Opens (take s.words list) bytes n after →
    length after ≡ length bytes →
    Ready (opened_with s n) after list x m
ready-open {n = n} r o l =
    record {
      room_book = let h = r.room_book in omega arith;
      room_list = r.room_list;
      room_x = r.room_x;
      room-m = r.room-m;
      words = r.words;
      corrections = r.corrections;
      matrix = r.matrix;
      read = r.read;
      fits = λ h. o.fits (by (eqb n 0) refl h);
    }
  where
    by : (t : Bool) → eqb n 0 ≡ t → opened_phase (cond t Opened Ended) ≡ true → n ≡ 0
    by true q h = eqb-true n 0 q
    by false q h = let z : false ≡ true = h in cc

read_few : (n : ℕ) (c : Command) → read_after n c ≤ suc n
unfolding read_after
read_few n (Station s) = omega arith
read_few n (Call c) = omega arith
read_few n (Corrections j) = omega arith
read_few n (Matrix j) = omega arith
read_few n Unreadable = omega arith

pub ready-next :
    {s : State} {bytes after : List ℕ} {list x m : List ℤ} {k : KeptLine} {a : LineRead} {list' x' m' : List ℤ} →
    Ready s bytes list x m →
    Reads s k list x m a list' x' m' →
    length after ≡ length bytes →
    length list' ≡ length list →
    length x' ≡ length x →
    length m' ≡ length m →
    (opened_phase s.phase ≡ true → bytes_fit after ≡ true) →
    Ready a.state after list' x' m'
ready-next {s} {a = a} r d l p q t f =
    record {
      room_book = let h = r.room_book in omega arith;
      room_list = let h = r.room_list in omega arith;
      room_x = let h = r.room_x in omega arith;
      room-m = let h = r.room-m in omega arith;
      words = d.few_words;
      corrections = d.few_corrections;
      matrix = d.few_matrix;
      read = let h = r.read in omega (arith, d.read, d.lines, read_few s.read a.command);
      fits = λ h. f (rw d.phase at h);
    }

-- ════ a line begins: the book is opened where it has to be
module _ {s : State} {bytes : List ℕ} {list : List ℤ} {line before : List ℕ} {at : ℕ} where
  pub begins-open :
      {n : ℕ} {opened : List ℕ} {next : ℕ} {after : List ℕ} →
      (unopened_phase s.phase && not (is_station_line line)) ≡ true →
      Opens (take s.words list) bytes n opened →
      length opened ≡ length bytes →
      Written before at (opening_answer n) next after →
      next ≤ at + refused_room →
      LineBegins s bytes list line before at (opened_with s n) opened next after
  begins-open t o l w f =
      record {
        runs = λ x m. record { run = begin_open s (book_of bytes) list x m line t o; written = written_as (begin_says s (book_of bytes) list x m line t o) w; few = f };
        ready = λ r. ready-open r o l;
        lines = refl;
      }

  pub begins_stay : (unopened_phase s.phase && not (is_station_line line)) ≡ false → LineBegins s bytes list line before at s bytes at before
  begins_stay t =
      record {
        runs = λ x m. record { run = begin_stay s (book_of bytes) list x m line t; written = written_as (begin_silent s (book_of bytes) list x m line t) (nothing before at); few = omega arith };
        ready = λ r. r;
        lines = refl;
      }

-- ════ a line, once begun: what it asks, leaves and prints
module _ (s : State) (b : Book) (list x m : List ℤ) (k : KeptLine) (a : LineRead) (list' x' m' : List ℤ) (rd : Reads s k list x m a list' x' m') (n : ℕ) (after : List ℕ) (ed : EditLeaves (cond (opened_phase s.phase) (edits b a.command) (unedited b)) n after) where
  asked_is : asked (run_of s b list x m) k ≡ a.command
  asked_is = rw (unopened_is s.phase b) (sym rd.command)

  obeyed-is : run_of a.state (book_of after) list' x' m' ≡ obeyed (run_of s b list x m) k (asked (run_of s b list x m) k)
  obeyed-is =
      rw (asked_is, rd.words, rd.read, rd.lines, rd.phase, rd.corrections, rd.matrix, ed.reads, phase_edited s.phase b a.command)

  said-is : cond (ended_phase s.phase) [] (command_says a.state.lines n a.command) ≡ obeyed_says (run_of s b list x m) (asked (run_of s b list x m) k)
  said-is = rw (asked_is, rd.lines, ed.number) (message_is s.phase b a.command (suc s.lines))

module _ {s : State} {bytes : List ℕ} {list x m : List ℤ} {k : KeptLine} {before : List ℕ} {at : ℕ} {s₁ : State} {bytes₁ : List ℕ} {p : ℕ} {out : List ℕ} (e : LineBegins s bytes list k.text before at s₁ bytes₁ p out) where
  pub line-obeyed :
      {a : LineRead} {list' x' m' : List ℤ} {n : ℕ} {bytes₂ : List ℕ} {q : ℕ} {after : List ℕ} →
      Reads s₁ k list x m a list' x' m' →
      EditLeaves (cond (opened_phase s₁.phase) (edits (book_of bytes₁) a.command) (unedited (book_of bytes₁))) n bytes₂ →
      Written out p (cond (ended_phase s₁.phase) [] (command_says a.state.lines n a.command)) q after →
      q ≤ p + message_room →
      RunsTo (next (run_of s (book_of bytes) list x m) k) (says (run_of s (book_of bytes) list x m) k) line_room before at (run_of a.state (book_of bytes₂) list' x' m') q after
  unfolding next says
  line-obeyed {a} {list'} {x'} {m'} {n = n} {bytes₂} rd ed w few =
      let r = e.runs x m in
      let said = said-is s₁ (book_of bytes₁) list x m k a list' x' m' rd n bytes₂ ed ∙ ap (λ (q : Run). obeyed_says q (asked q k)) r.run in
      record {
        run = obeyed-is s₁ (book_of bytes₁) list x m k a list' x' m' rd n bytes₂ ed ∙ ap (λ (q : Run). obeyed q k (asked q k)) r.run;
        written = written_as (ap (λ (t : List ℕ). before_line_says (run_of s (book_of bytes) list x m) k.text ++ t) said) (r.written then w);
        few = let h = r.few in omega arith;
      }
