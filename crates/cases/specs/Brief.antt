-- The ledger's answers, computed. Refusal 9 looks at every entry of N and u and never comes, so it is left out here; what is left is computed in few steps. Assumes nothing.
use Rattle.std.specs.Prelude.{ℕ, ◌≡◌, refl, true, List, Option, Some, None}
use Rattle.std.proofs.Common.{sym, ◌∙◌}
use Rattle.std.proofs.Math.Path.{ap}
use lib.IntN.{ℤ}
use Rattle.network.specs.Stations.{network_fits}
use Rattle.network.specs.Records.{record_at}
use Rattle.network.specs.declared.Network.{Network}
use Rattle.network.specs.declared.Record.{Record}
use Rattle.book.specs.declared.Book.{Book}
use Rattle.book.specs.declared.Call.{Call}
use Rattle.book.specs.declared.Call.TheVariants.{Edit, Undo}
use Rattle.book.specs.Calls.{place_of, places_of, first, place_no, undo_no, call_no, unless}
use Rattle.book.specs.Run.{final, answers, Alike, run_answers, run_final}
use Rattle.book.specs.Rows.{row_next, row_says}
use Rattle.book.specs.Book.{opened_book, book_next, book_says}
use Rattle.book.specs.Ledger.{Ledger, empty_ledger, standing, accepted, ledger_says}
use Rattle.book.specs.CallLaws.{first-same, place_inside}
use Rattle.book.specs.Numbers.{change_no_of, change-number}
use Rattle.book.specs.Follows.{Follows, says, follows_next, follows_opened}
use Rattle.book.specs.PlaceLaws.{is-places_of}
use Rattle.book.specs.Demand3.{book_after, book_answers}

-- the number of a call on a ledger, 9 left out
unfoldable pub brief_no : Network → Ledger → Call → ℕ
brief_no net l (Edit p c) = first (place_no p) (change_no_of net (standing l.edits (place_of p)) c)
brief_no net l Undo = undo_no l.count

abbrev pub brief_next : Network → Ledger → Call → Ledger
brief_next net l c = unless (brief_no net l c) l (accepted l c)

abbrev pub brief_after : Network → List (Option Call) → Ledger
brief_after net rows = final (row_next (brief_next net)) empty_ledger rows

abbrev pub brief_answers : Network → List (Option Call) → List ℤ
brief_answers net rows = answers (row_next (brief_next net)) (row_says (brief_no net)) empty_ledger rows

module _ (net : Network) (b : Book) (l : Ledger) (o : Follows net b l) where
  brief_says : (c : Call) → book_says b c ≡ brief_no net l c
  unfolding brief_no call_no
  brief_says (Edit p c) =
      let at = record_at b.places in
      ap (first (place_no p)) (sym (change-number b.network at o.sound.network o.sound.records (place_of p) c))
      ∙ ap (λ (n : Network). first (place_no p) (change_no_of n (at (place_of p)) c)) o.network
      ∙ first-same (place_no p) _ _ (λ e. ap (λ (q : Record). change_no_of net q c) (o.holds (place_of p) (place_inside p e)))
  brief_says Undo = says net b l o Undo

  brief_next_lem : (c : Call) → Follows net (book_next b c) (brief_next net l c)
  brief_next_lem c =
      let e : ledger_says net l c ≡ brief_no net l c = sym (says net b l o c) ∙ brief_says c in
      rw (← e) (follows_next net b l o c)

brief_row : (net : Network) (b : Book) (l : Ledger) (r : Option Call) → Follows net b l → row_says book_says b r ≡ row_says (brief_no net) l r
unfolding row_says
brief_row net b l (Some c) o = ap lib.IntN.pos (brief_says net b l o c)
brief_row net b l None o = refl

brief_stays : (net : Network) (b : Book) (l : Ledger) (r : Option Call) → Follows net b l → Follows net (row_next book_next b r) (row_next (brief_next net) l r)
unfolding row_next
brief_stays net b l (Some c) o = brief_next_lem net b l o c
brief_stays net b l None o = o

alike : (net : Network) → Alike (row_next book_next) (row_says book_says) (row_next (brief_next net)) (row_says (brief_no net)) (Follows net)
alike net = record { says_same = brief_row net; stays = brief_stays net }

module _ (net : Network) (g : network_fits net ≡ true) (rows : List (Option Call)) where
  pub brief_answers_lem : book_answers net rows ≡ brief_answers net rows
  brief_answers_lem = run_answers (row_next book_next) (row_says book_says) (row_next (brief_next net)) (row_says (brief_no net)) (Follows net) (alike net) (opened_book net) empty_ledger rows (follows_opened net g)

  pub brief_follows : Follows net (book_after net rows) (brief_after net rows)
  brief_follows = run_final (row_next book_next) (row_says book_says) (row_next (brief_next net)) (row_says (brief_no net)) (Follows net) (alike net) (opened_book net) empty_ledger rows (follows_opened net g)

  -- the records in force
  pub brief_places : (book_after net rows).places ≡ places_of (standing (brief_after net rows).edits)
  brief_places = is-places_of (book_after net rows).places (standing (brief_after net rows).edits) brief_follows.sound.places brief_follows.holds
