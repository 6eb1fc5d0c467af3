-- Demand 3 holds: the book follows the ledger row by row, so over any run. Assumes nothing.
use Rattle.std.specs.Prelude.{ℕ, ◌<◌, ◌≡◌, refl, true, List, Option, Some, None, ℤ, pos, length, get_or, take}
use Rattle.std.proofs.Common.{sym, ap, ◌∙◌, le_refl, take_all}
use Rattle.network.specs.Stations.{network_of, network_fits}
use Rattle.network.specs.declared.Network.{Network}
use Rattle.book.specs.declared.Book.{Book}
use Rattle.book.specs.declared.Call.{Call}
use Rattle.book.specs.declared.Call.TheVariants.{Undo}
use Rattle.book.specs.Calls.{undo_no, call_no}
use Rattle.book.specs.Run.{Alike, run_answers, run_final, answer_at}
use Rattle.book.specs.Rows.{row_next, row_says}
use Rattle.book.specs.Book.{opened_book, book_next, book_says}
use Rattle.book.specs.Ledger.{Ledger, empty_ledger, ledger_next, ledger_says}
use Rattle.network.specs.OpeningLaws.{opened-fits}
use Rattle.book.specs.CallLaws.{undo_eight, none_undo}
use Rattle.book.specs.Sound.{parts-sound}
use Rattle.book.specs.Follows.{Follows, says, follows_next, follows_normals, follows_opened}
use Rattle.book.specs.Demand3.{Demand, Demand3, book_after, book_answers, ledger_after, ledger_answers}

row_says_lem : (net : Network) (b : Book) (l : Ledger) (r : Option Call) → Follows net b l → row_says book_says b r ≡ row_says (ledger_says net) l r
unfolding row_says
row_says_lem net b l (Some c) o = ap pos (says net b l o c)
row_says_lem net b l None o = refl

row_stays : (net : Network) (b : Book) (l : Ledger) (r : Option Call) → Follows net b l → Follows net (row_next book_next b r) (row_next (ledger_next net) l r)
unfolding row_next
row_stays net b l (Some c) o = follows_next net b l o c
row_stays net b l None o = o

alike : (net : Network) → Alike (row_next book_next) (row_says book_says) (row_next (ledger_next net)) (row_says (ledger_says net)) (Follows net)
alike net = record { says_same = row_says_lem net; stays = row_stays net }

-- the ledger's answer to an undo
undo_said : (net : Network) (l : Ledger) (r : Option Call) → r ≡ Some Undo → row_says (ledger_says net) l r ≡ pos (undo_no l.count)
unfolding row_says call_no
undo_said net l r e = ap (row_says (ledger_says net) l) e

module _ (net : Network) (rows : List (Option Call)) (k : ℕ) (h : k < length rows) (e : get_or rows k None ≡ Some Undo) where
  ledger_said : get_or (ledger_answers net rows) k (pos 0) ≡ pos (undo_no (ledger_after net (take k rows)).count)
  ledger_said =
      answer_at (row_next (ledger_next net)) (row_says (ledger_says net)) empty_ledger rows k (pos 0) None h
      ∙ undo_said net (ledger_after net (take k rows)) (get_or rows k None) e

  was_refused : get_or (ledger_answers net rows) k (pos 0) ≡ pos 8 → (ledger_after net (take k rows)).count ≡ 0
  was_refused p = undo_eight _ (let q : pos (undo_no (ledger_after net (take k rows)).count) ≡ pos 8 = sym ledger_said ∙ p in cc)

  was_spent : (ledger_after net (take k rows)).count ≡ 0 → get_or (ledger_answers net rows) k (pos 0) ≡ pos 8
  was_spent p = ledger_said ∙ ap pos (none_undo _ p)

-- the book and the ledger along a run
follows_along : (net : Network) → network_fits net ≡ true → (rows : List (Option Call)) → Follows net (book_after net rows) (ledger_after net rows)
follows_along net g rows =
    run_final (row_next book_next) (row_says book_says) (row_next (ledger_next net)) (row_says (ledger_says net)) (Follows net) (alike net) (opened_book net) empty_ledger rows (follows_opened net g)

-- what is said and left by the book's calls is what demand 3 asks
module _ (net : Network) (g : network_fits net ≡ true) (rows : List (Option Call)) (said : List ℤ) (after : ℕ → Book) (left : Book)
    (says : said ≡ book_answers net rows) (along : (k : ℕ) → after k ≡ book_after net (take k rows)) (leaves : left ≡ book_after net rows) where
  same : said ≡ ledger_answers net rows
  same =
      says
      ∙ run_answers (row_next book_next) (row_says book_says) (row_next (ledger_next net)) (row_says (ledger_says net)) (Follows net) (alike net) (opened_book net) empty_ledger rows (follows_opened net g)

  counted : (k : ℕ) → (after k).journal.count ≡ (ledger_after net (take k rows)).count
  counted k = ap (λ (b : Book). b.journal.count) (along k) ∙ (follows_along net g (take k rows)).counted

  pub demanded : Demand net rows said after left
  demanded =
      let o : Follows net left (ledger_after net rows) = rw leaves (follows_along net g rows) in
      record {
        answered = same;
        records = o.holds;
        normals = follows_normals net left (ledger_after net rows) o;
        history = λ k h. counted k;
        undone = λ k h e. (
          (λ w. counted k ∙ was_refused net rows k h e (ap (λ (l : List ℤ). get_or l k (pos 0)) (sym same) ∙ w)),
          (λ w. ap (λ (l : List ℤ). get_or l k (pos 0)) same ∙ was_spent net rows k h e (sym (counted k) ∙ w)),
        );
        last = along (length rows) ∙ ap (book_after net) (take_all (length rows) rows (le_refl (length rows))) ∙ sym leaves;
        sound = parts-sound left o.sound;
      }

pub demand_3 : Demand3
demand_3 list e rows = demanded (network_of list) (opened-fits list e) rows _ _ _ refl (λ k. refl) refl
