-- The cases of the end of an input. Assumes nothing.
use Rattle.std.specs.Prelude.{ℕ, ◌≤◌, ◌≡◌, ◌||◌, List, Option, Some, None, is_some, take, ℤ}
use Rattle.std.proofs.Math.Path.{refl}
use Rattle.std.proofs.Common.{sym, ◌∙◌, append-nil, arith}
use Rattle.std.proofs.Math.Bool.{true, false}
use borrow.Author.Tests.{eq-eqb, ne_eqb}
use Rattle.book.specs.declared.Book.{Book}
use Rattle.book.specs.Book as book
use Rattle.layout.specs.Bytes.{book_of}
use Rattle.lent_edits.specs.LentEdits.{Opens}
use Rattle.text.specs.Writing.{Written, written_as, nothing}
use Rattle.printing.specs.Rooms.{sheet_room}
use Rattle.printing.specs.Messages.{refused_text}
use Rattle.printing.specs.Reports.{check_says, Offer, offer_says, no_pair}
use Rattle.printing.specs.Reports as reports
use Rattle.input_lines.specs.declared.Phase as code-phase
use Rattle.input_lines.specs.declared.Phase.TheVariants.{Unopened, Opened, Ended}
use Rattle.input_lines.specs.declared.State.{State}
use Rattle.input_lines.specs.Runs.{opened, ended, phase_with, phase_opened, opening_says}
use Rattle.input_lines.specs.States.{phase_of, given_of, given_length, run_of, opened_phase, ended_phase}
use Rattle.adjustment.specs.Ends.{book_ends, phase_ends, end_says, BookEnds, RunEnds}

-- ════ a book
module _ (b : Book) (x m : List ℤ) where
  pub ends_check : (g h : Option ℕ) → (is_some g || is_some h) ≡ true → check_says b (take (given_length g) x) (take (given_length h) m) ≡ book_ends (given_of g x) (given_of h m) b reports.none
  unfolding given_of book_ends
  ends_check None None e = let z : false ≡ true = e in cc
  ends_check None (Some n) e = refl
  ends_check (Some k) None e = refl
  ends_check (Some k) (Some n) e = refl

  pub ends_offer : (g h : Option ℕ) (o : Offer) → (is_some g || is_some h) ≡ false → offer_says b o ≡ book_ends (given_of g x) (given_of h m) b o
  unfolding given_of book_ends
  ends_offer None None o e = refl
  ends_offer None (Some n) o e = let z : true ≡ false = e in cc
  ends_offer (Some k) None o e = let z : true ≡ false = e in cc
  ends_offer (Some k) (Some n) o e = let z : true ≡ false = e in cc

-- ════ phases
pub only_ended : (p : code-phase.Phase) → ended_phase p ≡ true → p ≡ Ended
only_ended Unopened e = let z : false ≡ true = e in cc
only_ended Opened e = let z : false ≡ true = e in cc
only_ended Ended e = refl

pub only-opened : (p : code-phase.Phase) → opened_phase p ≡ true → p ≡ Opened
only-opened Unopened e = let z : false ≡ true = e in cc
only-opened Opened e = refl
only-opened Ended e = let z : false ≡ true = e in cc

pub only_unopened : (p : code-phase.Phase) → ended_phase p ≡ false → opened_phase p ≡ false → p ≡ Unopened
only_unopened Unopened e f = refl
only_unopened Opened e f = let z : true ≡ false = f in cc
only_unopened Ended e f = let z : true ≡ false = e in cc

same_book : (b c : Book) → opened b ≡ opened c → b ≡ c
same_book b c e = cc

-- ════ the end
module _ (s : State) (b : Book) (list x m : List ℤ) (out : List ℕ) where
  pub end_ended : s.phase ≡ Ended → RunEnds (run_of s b list x m) out 0 out
  unfolding end_says opening_says phase_ends phase_of phase_opened
  end_ended e =
      rw e
      (record {
        offer = reports.none;
        offers = λ c q. no_pair;
        written = nothing out 0;
        small = omega arith;
      })

  pub end_opened : {n : ℕ} {after : List ℕ} → s.phase ≡ Opened → BookEnds (given_of s.corrections x) (given_of s.matrix m) b out n after → RunEnds (run_of s b list x m) out n after
  unfolding end_says opening_says phase_ends phase_of phase_opened
  end_opened e h =
      rw e
      (record {
        offer = h.offer;
        offers = λ c q. rw (same_book b c q) at h.offers;
        written = h.written;
        small = h.small;
      })

  module _ (u : s.phase ≡ Unopened) {before bytes : List ℕ} {number : ℕ} (o : Opens (take s.words list) before number bytes) where
    refused_phase : (number ≡ 0 → ⊥) → phase_with (book.opening (take s.words list)) ≡ ended
    refused_phase q = rw (← o.number, ne_eqb number 0 q)

    fresh_phase : number ≡ 0 → phase_with (book.opening (take s.words list)) ≡ opened (book_of bytes)
    fresh_phase q = rw (← o.number, eq-eqb number 0 q, o.reads q)

    pub end_refused : {n : ℕ} {after : List ℕ} → (number ≡ 0 → ⊥) → Written out 0 (refused_text number) n after → n ≤ sheet_room → RunEnds (run_of s b list x m) out n after
    unfolding end_says opening_says phase_ends phase_of phase_opened
    end_refused q w k =
        rw u
        (record {
          offer = reports.none;
          offers = λ c r. no_pair;
          written = rw (refused_phase q, ← o.number, ne_eqb number 0 q) (written_as (sym (append-nil (refused_text number))) w);
          small = k;
        })

    pub end_fresh : {n : ℕ} {after : List ℕ} → number ≡ 0 → BookEnds (given_of s.corrections x) (given_of s.matrix m) (book_of bytes) out n after → RunEnds (run_of s b list x m) out n after
    unfolding end_says opening_says phase_ends phase_of phase_opened
    end_fresh q h =
        rw u
        (record {
          offer = h.offer;
          offers = λ c r. rw (same_book (book_of bytes) c (sym (fresh_phase q) ∙ r)) at h.offers;
          written = rw (fresh_phase q, ← o.number, eq-eqb number 0 q) h.written;
          small = h.small;
        })
