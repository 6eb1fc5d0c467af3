-- Demand 3 over bytes holds: what the bytes hold follows the book of the same calls, and the book follows the ledger. Assumes nothing.
use Rattle.std.specs.Prelude.{ℕ, zero, suc, ◌/◌, ◌%◌, ◌≤◌, ◌≡◌, refl, Bool, true, false, cond, List, [], ◌∷◌, map, ◌⊎◌, leb, eqb, length, take, ℤ, nat_abs, Option, Some}
use Rattle.std.proofs.Common.{sym, ap, ◌∙◌, subst, inl, inr, arith, leb-true}
use Rattle.std.proofs.Math.IntN.{pos}
use Rattle.words.specs.Bools.{true_or_false}
use Rattle.words.specs.Runs.{words_at}
use Rattle.network.specs.Stations.{network_of}
use Rattle.network.specs.Stations as stations
use Rattle.network.specs.OpeningLaws.{opened-fits}
use Rattle.network.specs.declared.Network.{Network}
use Rattle.book.specs.declared.Book.{Book}
use Rattle.book.specs.Outcome.{Outcome}
use Rattle.book.specs.declared.Call.{Call}
use Rattle.book.specs.Calls.{unless}
use Rattle.book.specs.Book.{opened_book, book_says, book_next, outcome}
use Rattle.book.specs.Rows.{row_next, row_says}
use Rattle.book.specs.Run.{final, answers, Alike, run_answers, run_final}
use Rattle.book.specs.Demand3Holds.{demanded}
use Rattle.layout.specs.Bytes.{book_of, put_book, bytes_fit}
use Rattle.layout.specs.Layout.{book_bytes}
use Rattle.lent_edits.specs.LeavesBook.{HoldsBook, next-network, call_leaves, opened-holds}
use Rattle.dombrelat.specs.Calls.{Returned, refused_with, answered_with, through, bytes_next, bytes_says, open_call}
use Rattle.dombrelat.specs.Demand3.{bytes_after, bytes_answers, Demand3}

-- ════ rows that are calls
rows-answers : (b : Book) (cs : List Call) → answers book_next (λ x c. pos (book_says x c)) b cs ≡ answers (row_next book_next) (row_says book_says) b (map Some cs)
unfolding answers row_next row_says
rows-answers b [] = refl
rows-answers b (c ∷ cs) = ap (λ (l : List ℤ). pos (book_says b c) ∷ l) (rows-answers (book_next b c) cs)

rows-final : (b : Book) (cs : List Call) → final book_next b cs ≡ final (row_next book_next) b (map Some cs)
unfolding final row_next
rows-final b [] = refl
rows-final b (c ∷ cs) = rows-final (book_next b c) cs

rows_take : (k : ℕ) (cs : List Call) → map Some (take k cs) ≡ take k (map Some cs)
rows_take zero cs = refl
rows_take (suc k) [] = refl
rows_take (suc k) (c ∷ cs) = ap (λ (l : List (Option Call)). Some c ∷ l) (rows_take k cs)

-- ════ a call through the book
pub through-fits : (s : List ℕ) (f : Book → Outcome) → bytes_fit s ≡ true → through s f ≡ answered_with s (f (book_of s))
unfolding through
through-fits s f e = ap (λ (t : Bool). cond t (answered_with s (f (book_of s))) (refused_with 25 s)) e

through_unfit : (s : List ℕ) (f : Book → Outcome) → bytes_fit s ≡ false → through s f ≡ refused_with 25 s
unfolding through
through_unfit s f e = ap (λ (t : Bool). cond t (answered_with s (f (book_of s))) (refused_with 25 s)) e

-- ════ bytes hold a book, and are those of s₀ beyond it
module _ (s₀ : List ℕ) where
  pub says_same : (s : List ℕ) (b : Book) (c : Call) → HoldsBook s₀ s b → bytes_says s c ≡ pos (book_says b c)
  says_same s b c h =
      ap (λ (r : Returned). r.answer) (through-fits s (λ x. outcome x c) h.fits) ∙ ap (λ (x : Book). pos (book_says x c)) h.reads

  pub stays : (s : List ℕ) (b : Book) (c : Call) → HoldsBook s₀ s b → HoldsBook s₀ (bytes_next s c) (book_next b c)
  stays s b c h =
      subst (λ (y : Book). HoldsBook s₀ (bytes_next s c) (book_next y c)) h.reads
      (subst (λ (t : List ℕ). HoldsBook s₀ t (book_next (book_of s) c)) (sym (ap (λ (r : Returned). r.bytes) (through-fits s (λ y. outcome y c) h.fits))) (call_leaves s₀ s h.fits h.beyond c))

  alike : Alike bytes_next bytes_says book_next (λ b c. pos (book_says b c)) (HoldsBook s₀)
  alike = record { says_same = says_same; stays = stays }

-- ════ an accepted opening
record Opened (list s : List ℕ) : Type 0 where
  room : book_bytes ≤ length s
  accepts : stations.opens (words_at list 0 (length list / 8)) ≡ true
  written : (open_call list s).bytes ≡ put_book s (opened_book (network_of (words_at list 0 (length list / 8))))

not_zero : (n : ℕ) {X : Type 0} → pos (suc n) ≡ pos 0 → X
not_zero n e = absurd (let z : suc n ≡ 0 = ap nat_abs e in omega arith)

-- the three tests of an opening
abbrev tested : Bool → Bool → Bool → List ℕ → Book → Book → Returned
tested t u v s b b' = cond t (cond u (answered_with s (cond v (record { refusal = 0; book = b }) (record { refusal = 1; book = b' }))) (refused_with 1 s)) (refused_with 25 s)

tests-pass : (t u v : Bool) (s : List ℕ) (b b' : Book) → (tested t u v s b b').answer ≡ pos 0 → (t ≡ true) × (v ≡ true) × ((tested t u v s b b').bytes ≡ put_book s b)
unfolding unless
tests-pass true true true s b b' e = (refl, refl, refl)
tests-pass true true false s b b' e = not_zero 0 e
tests-pass true false v s b b' e = not_zero 0 e
tests-pass false u v s b b' e = not_zero 24 e

accepted : (list s : List ℕ) → (open_call list s).answer ≡ pos 0 → Opened list s
unfolding open_call
accepted list s a =
    let words = words_at list 0 (length list / 8) in
    let w = tests-pass (leb book_bytes (length s)) (eqb (length list % 32) 0) (stations.opens words) s (opened_book (network_of words)) (opened_book (network_of [])) a in
    record { room = leb-true _ _ w.0; accepts = w.1; written = w.2 }

-- ════ the statement
holds_opened : (list s : List ℕ) → Opened list s → HoldsBook s (open_call list s).bytes (opened_book (network_of (words_at list 0 (length list / 8))))
holds_opened list s o =
    let words = words_at list 0 (length list / 8) in
    subst (λ (t : List ℕ). HoldsBook s t (opened_book (network_of words))) (sym o.written) (opened-holds s o.room words o.accepts)

module _ (list s : List ℕ) (o : Opened list s) where
  net : Network
  net = network_of (words_at list 0 (length list / 8))

  left : (calls : List Call) → HoldsBook s (bytes_after list s calls) (final book_next (opened_book net) calls)
  unfolding net
  left calls = run_final bytes_next bytes_says book_next (λ b c. pos (book_says b c)) (HoldsBook s) (alike s) (open_call list s).bytes (opened_book net) calls (holds_opened list s o)

  said : (calls : List Call) → bytes_answers list s calls ≡ answers book_next (λ b c. pos (book_says b c)) (opened_book net) calls
  unfolding net
  said calls = run_answers bytes_next bytes_says book_next (λ b c. pos (book_says b c)) (HoldsBook s) (alike s) (open_call list s).bytes (opened_book net) calls (holds_opened list s o)

-- ════ what the bytes hold after an accepted opening and a run, and its answers: those of the book of the same calls
module _ (list s : List ℕ) (a : (open_call list s).answer ≡ pos 0) (calls : List Call) where
  pub after_holds : HoldsBook s (bytes_after list s calls) (final book_next (opened_book (network_of (words_at list 0 (length list / 8)))) calls)
  unfolding net
  after_holds = left list s (accepted list s a) calls

  pub after-said : bytes_answers list s calls ≡ answers book_next (λ b c. pos (book_says b c)) (opened_book (network_of (words_at list 0 (length list / 8)))) calls
  unfolding net
  after-said = said list s (accepted list s a) calls

-- ════ what an accepted opening or edit leaves is a book that the next call takes
pub opened-fits-next : (list s : List ℕ) → (open_call list s).answer ≡ pos 0 → bytes_fit (open_call list s).bytes ≡ true
opened-fits-next list s a = (holds_opened list s (accepted list s a)).fits

-- bytes that hold no book are answered 25, and not 0
pub says-fits : (s : List ℕ) (c : Call) → bytes_says s c ≡ pos 0 → bytes_fit s ≡ true
says-fits s c a = go (true_or_false (bytes_fit s))
  where
    go : (bytes_fit s ≡ true) ⊎ (bytes_fit s ≡ false) → bytes_fit s ≡ true
    go (inl e) = e
    go (inr e) = not_zero 24 (sym (ap (λ (r : Returned). r.answer) (through_unfit s (λ b. outcome b c) e)) ∙ a)

pub holds_own : (s : List ℕ) → bytes_fit s ≡ true → HoldsBook s s (book_of s)
holds_own s e = record { reads = refl; fits = e; beyond = λ j q. refl }

-- what an accepted edit has shown of the bytes, and what it leaves
pub record Next (s : List ℕ) (c : Call) : Type 0 where
  pub says : book_says (book_of s) c ≡ 0
  pub fits : bytes_fit (bytes_next s c) ≡ true
  pub reads : book_of (bytes_next s c) ≡ book_next (book_of s) c

pub edited-next : (s : List ℕ) (c : Call) → bytes_says s c ≡ pos 0 → Next s c
edited-next s c a =
    let h = holds_own s (says-fits s c a) in
    let next = stays s s (book_of s) c h in
    record { says = ap nat_abs (sym (says_same s s (book_of s) c h) ∙ a); fits = next.fits; reads = next.reads }

-- an opened book keeps its station list
final-network : (b : Book) (calls : List Call) → (final book_next b calls).network ≡ b.network
unfolding final
final-network b [] = refl
final-network b (c ∷ cs) = final-network (book_next b c) cs ∙ next-network b c

-- what the bytes hold after an accepted opening and any run of calls
pub record After (list s : List ℕ) (calls : List Call) : Type 0 where
  pub accepts : stations.opens (words_at list 0 (length list / 8)) ≡ true
  pub fits : bytes_fit (bytes_after list s calls) ≡ true
  pub network : (book_of (bytes_after list s calls)).network ≡ network_of (words_at list 0 (length list / 8))

pub opened_after : (list s : List ℕ) → (open_call list s).answer ≡ pos 0 → (calls : List Call) → After list s calls
unfolding net
opened_after list s a calls =
    let o = accepted list s a in
    let h = left list s o calls in
    record { accepts = o.accepts; fits = h.fits; network = ap (λ (b : Book). b.network) h.reads ∙ final-network (opened_book (net list s o)) calls }

pub demand_3 : Demand3
unfolding net
demand_3 list s a calls =
    let o = accepted list s a in
    let b = opened_book (net list s o) in
    record {
      ledger =
          demanded (net list s o) (opened-fits (words_at list 0 (length list / 8)) o.accepts) (map Some calls) _ _ _
          (said list s o calls ∙ rows-answers b calls)
          (λ k. (left list s o (take k calls)).reads ∙ rows-final b (take k calls) ∙ ap (final (row_next book_next) b) (rows_take k calls))
          ((left list s o calls).reads ∙ rows-final b calls);
      fits = (left list s o calls).fits;
      beyond = (left list s o calls).beyond;
    }
