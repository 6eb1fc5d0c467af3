-- Document 02, request 4: a record is entered with its antenna heights, or taken to the marks. Where the first is not refused the second is not, and the two books have the same N and u,
-- residuals, T, answers of the check and sheets. Assumes nothing.
use Rattle.std.specs.Prelude.{ℕ, ◌<◌, ◌≡◌, Bool, true, false, cond, eqb, ℤ, length}
use Rattle.std.proofs.Math.Path.{refl}
use Rattle.std.proofs.Common.{sym, ap, ◌∙◌, arith}
use Rattle.network.specs.Records.{record_at}
use Rattle.network.specs.Rules.{record_no}
use Rattle.network.specs.AtMarks.{at_marks, marks_again, marks_accepted}
use Rattle.network.specs.declared.Network.{Network}
use Rattle.network.specs.declared.Record.{Record}
use Rattle.book.specs.declared.Book.{Book}
use Rattle.book.specs.declared.Change.TheVariants.{Enter}
use Rattle.book.specs.declared.Call.TheVariants.{Edit}
use Rattle.book.specs.Calls.{place_of, first, place_no, changed, places_of, size_no, change_no, call_no, puts}
use Rattle.book.specs.CallLaws.{first_zero, place_inside, unless-none}
use Rattle.book.specs.PlaceLaws.{record_set, places_of-at}
use Rattle.book.specs.Book.{edited, book_accepts, book_says, book_next}
use Rattle.book.specs.Sound.{Sized}
use Rattle.checks.specs.SameShares.{same_entries_lem}
use Rattle.checks.specs.AtMarks.{SameAtMarks, SameSheets, marks_shares, same_sheets}

-- ════ the record of a place, entered or taken to the marks
changed-at_marks : (at : ℕ → Record) (p : ℕ) (r : Record) (k : ℕ) → at_marks (changed at p r k) ≡ at_marks (changed at p (at_marks r) k)
unfolding changed
changed-at_marks at p r k = go (eqb k p)
  where
    go : (t : Bool) → at_marks (cond t r (at k)) ≡ at_marks (cond t (at_marks r) (at k))
    go true = sym (marks_again r)
    go false = refl

-- ════ it is not refused
same_size : (net : Network) (at : ℕ → Record) (p : ℕ) (r : Record) → size_no net at p r ≡ size_no net at p (at_marks r)
unfolding size_no
same_size net at p r =
    ap (λ (t : Bool). cond t 0 9)
    (same_entries_lem (marks_shares net (places_of (changed at p r)) (places_of (changed at p (at_marks r)))
    (λ k h. ap at_marks (places_of-at (changed at p r) k h) ∙ changed-at_marks at p r k ∙ ap at_marks (sym (places_of-at (changed at p (at_marks r)) k h)))))

module _ (b : Book) (sized : Sized b) (p : ℤ) (r : Record) (e : book_says b (Edit p (Enter r)) ≡ 0) where
  says-at_marks : book_says b (Edit p (Enter (at_marks r))) ≡ 0
  unfolding call_no change_no first
  says-at_marks =
      let x = first_zero (place_no p) _ e in
      let y = first_zero (record_no b.network r) _ x.1 in
      rw (x.0, marks_accepted b.network r y.0) (sym (same_size b.network (record_at b.places) (place_of p) r) ∙ y.1)

  inside : place_of p < 256
  unfolding call_no
  inside = place_inside p (first_zero (place_no p) _ e).0

  same_places : SameAtMarks (edited b (place_of p) r).places (edited b (place_of p) (at_marks r)).places
  same_places k h =
      let long : place_of p < length b.places = omega (arith, inside, sized.places) in
      ap at_marks (sym (record_set b.places (place_of p) r k long)) ∙ changed-at_marks (record_at b.places) (place_of p) r k
      ∙ ap at_marks (record_set b.places (place_of p) (at_marks r) k long)

  pub enter_at_marks : (book_says b (Edit p (Enter (at_marks r))) ≡ 0) × SameSheets (book_next b (Edit p (Enter r))) (book_next b (Edit p (Enter (at_marks r))))
  unfolding book_accepts puts
  enter_at_marks =
      let entered : book_next b (Edit p (Enter r)) ≡ edited b (place_of p) r = unless-none _ b _ e in
      let marked : book_next b (Edit p (Enter (at_marks r))) ≡ edited b (place_of p) (at_marks r) = unless-none _ b _ says-at_marks in
      (says-at_marks, rw (entered, marked) (same_sheets (edited b (place_of p) r) (edited b (place_of p) (at_marks r)) refl same_places))
