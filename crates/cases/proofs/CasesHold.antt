-- The cases hold: what the book's calls and the check give is what is worked out on the ledger's records. Assumes nothing.
use Rattle.acceptance.specs.Judge.{Answer}
use Rattle.std.specs.Prelude.{ℕ, zero, suc, ◌≤◌, ◌<◌, ◌≡◌, Bool, leb, length, get_or, ℤ, Ok, Err}
use Rattle.std.proofs.Math.Path.{ap}
use Rattle.std.proofs.Common.{◌∙◌, arith, leb-true, le-leb, le_of_suc-le-suc, not-suc-le-zero}
use Rattle.std.proofs.Math.Bool.{true}
use mathlib.Core.List.{List, [], ◌∷◌, ◌++◌, map}
use Rattle.std.proofs.Math.ListN.{drop}
use Rattle.network.specs.Stations.{network_of, network_fits}
use Rattle.network.specs.OpeningLaws.{opened-fits}
use Rattle.network.specs.declared.Network.{Network}
use Rattle.network.specs.declared.Place.{Place}
use Rattle.acceptance.specs.Exactly.{answer}
use Rattle.book.specs.declared.Book.{Book}
use Rattle.book.specs.Sound.{SoundParts, parts-sound}
use Rattle.sheet.specs.Sheet.{sheet_words, room}
use Rattle.sheet.specs.SheetLaws.{sheet_length}
use Rattle.checks.specs.Checks.{checked, has_room, on_acceptance, sheet_after}
use Rattle.checks.specs.CheckLaws.{checked-is}
use Rattle.cases.specs.Table.{Case, station_list, table}
use Rattle.cases.specs.Cases.{filled_places, rows_of, case_book, x_of, m_of, refined_at, enough, AnswersAs, CaseHolds, case_at, CasesHold}
use Rattle.cases.specs.Brief.{brief_after, brief_answers, brief_answers_lem, brief_follows, brief_places}
use Rattle.book.specs.Follows.{Follows}
use Rattle.cases.specs.Worked.{WorkedCase, case_places, worked_on, expected, network, network-is, list_opens, all_places, all_worked}

-- ════ what is worked out is what the calls and the check give
module _ (net : Network) (places : List Place) (x m lent : List ℤ) where
  -- the lent words afterwards, by the answer: the sheet at their front, or as they were
  written_as : (a : Answer) (w : List ℤ) → on_acceptance a (sheet_words net places x m) [] ≡ w → on_acceptance a (sheet_words net places x m ++ drop (room net places) lent) lent ≡ w ++ drop (length w) lent
  unfolding on_acceptance
  written_as (Ok u) w e = rw (← e, sheet_length net places x m)
  written_as (Err refusal) w e = rw (← e)

-- a check of a book with these stations and records
module _ (b : Book) (g : SoundParts b) (net : Network) (places : List Place) (p : b.network ≡ net) (q : b.places ≡ places) (x m : List ℤ) where
  checked_on : (r : Bool) → checked b x m r ≡ answer net places x m r
  checked_on r = checked-is b (parts-sound b g) x m r ∙ ap (λ (n : Network). answer n b.places x m r) p ∙ ap (λ (l : List Place). answer net l x m r) q

  refined_on : refined_at b.network b.places x m 0 ≡ refined_at net places x m 0
  refined_on = ap (λ (n : Network). refined_at n b.places x m 0) p ∙ ap (λ (l : List Place). refined_at net l x m 0) q

  room_on : room b.network b.places ≡ room net places
  room_on = ap (λ (n : Network). room n b.places) p ∙ ap (room net) q

  module _ (lent : List ℤ) (few : leb (room net places) enough ≡ true) (h : enough ≤ length lent) where
    has_room_lem : has_room b lent ≡ true
    has_room_lem = let w : room net places ≤ enough = leb-true _ _ few in let s : room b.network b.places ≡ room net places = room_on in le-leb (room b.network b.places) (length lent) (omega arith)

    pub lent_on : checked b x m (has_room b lent) ≡ answer net places x m true
    lent_on = ap (checked b x m) has_room_lem ∙ checked_on true

    pub written_on : (w : List ℤ) → on_acceptance (answer net places x m true) (sheet_words net places x m) [] ≡ w → sheet_after b x m lent ≡ w ++ drop (length w) lent
    unfolding sheet_after
    written_on w e =
        let a = answer net places x m true in
        ap (λ (z : Answer). on_acceptance z (sheet_words b.network b.places x m ++ drop (room b.network b.places) lent) lent) lent_on
        ∙ ap (λ (n : Network). on_acceptance a (sheet_words n b.places x m ++ drop (room n b.places) lent) lent) p
        ∙ ap (λ (l : List Place). on_acceptance a (sheet_words net l x m ++ drop (room net l) lent) lent) q
        ∙ written_as net places x m lent a w e

-- a case whose records and outcome are worked out as expected holds
module _ (c : Case) (k : case_places network c ≡ filled_places c.records) (e : worked_on network (filled_places c.records) c ≡ expected c) where
  fits : network_fits (network_of station_list) ≡ true
  fits = opened-fits station_list list_opens

  follows : Follows (network_of station_list) (case_book c) (brief_after (network_of station_list) (rows_of c))
  follows = brief_follows (network_of station_list) fits (rows_of c)

  stations : (case_book c).network ≡ network
  stations = follows.network ∙ network-is

  places : (case_book c).places ≡ filled_places c.records
  places = brief_places (network_of station_list) fits (rows_of c) ∙ ap (λ (n : Network). case_places n c) network-is ∙ k

  answers_as : AnswersAs c (answer network (filled_places c.records) (x_of c) (m_of c) true)
  unfolding worked_on expected
  answers_as = record { number = ap (λ (w : WorkedCase). w.number) e; unknown = ap (λ (w : WorkedCase). w.unknown) e }

  few : leb (room network (filled_places c.records)) enough ≡ true
  unfolding worked_on expected
  few = ap (λ (w : WorkedCase). w.fits) e

  by_working : CaseHolds c
  unfolding worked_on expected
  by_working =
      record {
        opened = list_opens;
        answered = brief_answers_lem (network_of station_list) fits (rows_of c) ∙ ap (λ (n : Network). brief_answers n (rows_of c)) network-is ∙ ap (λ (w : WorkedCase). w.answered) e;
        records = places;
        refined = refined_on (case_book c) follows.sound network (filled_places c.records) stations places (x_of c) (m_of c) ∙ ap (λ (w : WorkedCase). w.refined) e;
        check = rw (checked_on (case_book c) follows.sound network (filled_places c.records) stations places (x_of c) (m_of c) true) answers_as;
        check_sheet = λ lent h. rw (lent_on (case_book c) follows.sound network (filled_places c.records) stations places (x_of c) (m_of c) lent few h) answers_as;
        written = λ lent h. written_on (case_book c) follows.sound network (filled_places c.records) stations places (x_of c) (m_of c) lent few h c.sheet (ap (λ (w : WorkedCase). w.sheet) e);
      }

-- ════ every case of the table
-- what two lists given by a function each agree in, they agree in at each index
at_each : {A : Type 0} (f g : Case → A) (l : List Case) → map f l ≡ map g l → (k : ℕ) (d : Case) → k < length l → f (get_or l k d) ≡ g (get_or l k d)
at_each f g [] e k d h = absurd (not-suc-le-zero h)
at_each f g (c ∷ l) e zero d h = ap (λ x. get_or x 0 (f c)) e
at_each f g (c ∷ l) e (suc k) d h = at_each f g l (ap (drop 1) e) k d (le_of_suc-le-suc h)

pub cases_hold : CasesHold
cases_hold k h = by_working (case_at k) (at_each _ _ table all_places k _ h) (at_each _ _ table all_worked k _ h)
