-- Every edit and undo of a sound book leaves a sound book. Assumes nothing.
use Rattle.std.specs.Prelude.{ℕ, zero, suc, ◌<◌, ◌≤◌, ◌≡◌, Bool, true, false, not, ◌&&◌, List, [], ◌∷◌, ltb, ℤ, length, take, set}
use Rattle.std.proofs.Math.Path.{refl}
use Rattle.std.proofs.Common.{sym, ap, ◌∙◌, subst, arith, length-set}
use Rattle.words.specs.Bools.{and_no_left, and_no_right}
use Rattle.network.specs.Records.{record_at, is_empty}
use Rattle.network.specs.Rules.{record_no, record_fits}
use Rattle.network.specs.declared.Network.{Network}
use Rattle.network.specs.declared.Place.{Place}
use Rattle.network.specs.declared.Record.{Record}
use Rattle.book.specs.declared.Reversal.{Reversal}
use Rattle.book.specs.declared.Book.{Book}
use Rattle.book.specs.Outcome.{Outcome}
use Rattle.book.specs.declared.Change.{Change}
use Rattle.book.specs.declared.Change.TheVariants.{Enter, Strike}
use Rattle.book.specs.declared.Call.{Call}
use Rattle.book.specs.declared.Call.TheVariants.{Edit, Undo}
use Rattle.book.specs.Calls.{place_of, place_no, change_no, call_no, changed, puts}
use Rattle.book.specs.Journal.{journal_size, reversals, popped, latest}
use Rattle.book.specs.Book.{edited, undone, book_accepts, book_says, book_next, outcome, undoable}
use Rattle.network.specs.RuleLaws.{fits_empty, accepted-fits, accepted-filled}
use Rattle.book.specs.PlaceLaws.{changed-same, changed-ext, changed-each, changed-back, record_set}
use Rattle.book.specs.JournalLaws.{reversals_push, reversals_pop, tidy_pushed, tidy_popped}
use Rattle.book.specs.CallLaws.{first_zero, place_inside, empty_zero, undo_zero, unless-either, call_small}
use Rattle.book.specs.Sound.{SoundParts, Undoes, undoable-first, first-undoable}

-- ════ an edit that is not refused: r may be put at place p
pub record MayPut (b : Book) (p : ℕ) (r : Record) : Type 0 where
  pub inside : p < 256
  pub fits : record_fits b.network r ≡ true
  pub real : is_empty r && is_empty (record_at b.places p) ≡ false

change_may_put : (b : Book) (p : ℕ) → p < 256 → (c : Change) → change_no b.network (record_at b.places) p c ≡ 0 → MayPut b p (puts c)
unfolding change_no puts
change_may_put b p inside (Enter r) e =
    let y = first_zero (record_no b.network r) _ e in
    record { inside = inside; fits = accepted-fits b.network r y.0; real = and_no_left _ _ (accepted-filled b.network r y.0) }
change_may_put b p inside Strike e =
    record { inside = inside; fits = fits_empty b.network; real = and_no_right (is_empty (puts Strike)) _ (empty_zero (record_at b.places p) e) }

-- what an edit that the table does not refuse puts at its place, where the code has that as r, and the place as i
pub edit_may_put : (b : Book) (p : ℤ) (c : Change) (i : ℕ) (r : Record) → i ≡ place_of p → r ≡ puts c → book_says b (Edit p c) ≡ 0 → MayPut b i r
unfolding call_no
edit_may_put b p c i r at is e = let x = first_zero (place_no p) _ e in rw (at, is) (change_may_put b (place_of p) (place_inside p x.0) c x.1)

-- ════ no call on a book is answered with a number above 9
pub refusal-small : (b : Book) (c : Call) (e : Outcome) → e ≡ outcome b c → e.refusal ≤ 9
refusal-small b c e w = subst (λ (x : Outcome). x.refusal ≤ 9) (sym w) (call_small b.network (record_at b.places) b.journal.count c)

-- ════ the journal's reversals over the same records, and fewer of them
pub undoable-ext : (net : Network) (f g : ℕ → Record) (h : List Reversal) → ((k : ℕ) → f k ≡ g k) → undoable net f h ≡ undoable net g h
unfolding undoable
undoable-ext net f g [] e = refl
undoable-ext net f g (u ∷ h) e =
    ap (λ (r : Record). ltb u.place 256 && record_fits net u.prior && not (is_empty r && is_empty u.prior) && undoable net (changed f u.place u.prior) h) (e u.place)
    ∙ ap (λ (t : Bool). ltb u.place 256 && record_fits net u.prior && not (is_empty (g u.place) && is_empty u.prior) && t)
    (undoable-ext net (changed f u.place u.prior) (changed g u.place u.prior) h (λ k. changed-ext f g u.place u.prior k (e k)))

pub undoable-none : (net : Network) (at : ℕ → Record) → undoable net at [] ≡ true
unfolding undoable
undoable-none net at = refl

undoable-take : (net : Network) (n : ℕ) (at : ℕ → Record) (h : List Reversal) → undoable net at h ≡ true → undoable net at (take n h) ≡ true
undoable-take net zero at h e = undoable-none net at
undoable-take net (suc n) at [] e = e
undoable-take net (suc n) at (u ∷ h) e =
    let o = undoable-first net at u h e in
    first-undoable net at u (take n h)
    (record { inside = o.inside; fits = o.fits; real = o.real; rest = undoable-take net n (changed at u.place u.prior) h o.rest })

-- the latest reversal of a sound book that has one
pub latest-undoes : (b : Book) → SoundParts b → 0 < b.journal.count → Undoes b.network (record_at b.places) (latest b.journal) (reversals (popped b.journal))
latest-undoes b o some =
    undoable-first b.network (record_at b.places) (latest b.journal) (reversals (popped b.journal))
    (subst (λ (h : List Reversal). undoable b.network (record_at b.places) h ≡ true) (reversals_pop b.journal some o.journal) o.undoes)

-- ════ the steps
each_set : (net : Network) (l : List Place) (p : ℕ) (r : Record) → p < length l → record_fits net r ≡ true → ((k : ℕ) → record_fits net (record_at l k) ≡ true)
    → (k : ℕ) → record_fits net (record_at (set l p (record { entry = r })) k) ≡ true
each_set net l p r h new old k =
    subst (λ (x : Record). record_fits net x ≡ true) (record_set l p r k h) (changed-each (λ x. record_fits net x ≡ true) (record_at l) p r k new (old k))

module _ (b : Book) (o : SoundParts b) where
  pub sound-edited : (p : ℕ) (r : Record) → MayPut b p r → SoundParts (edited b p r)
  sound-edited p r n =
      let net = b.network in
      let l = b.places in
      let old : Record = record_at l p in
      let new : Reversal = record { place = p; prior = old } in
      let inside : p < length l = let x : length l ≡ 256 = o.places in let y : p < 256 = n.inside in omega arith in
      record {
        network = o.network;
        records = each_set net l p r inside n.fits o.records;
        journal = tidy_pushed b.journal new o.entries o.journal;
        undoes =
            subst (λ (h : List Reversal). undoable net (record_at (set l p (record { entry = r }))) h ≡ true)
            (sym (reversals_push b.journal new o.entries o.journal))
            (sym (undoable-ext net (changed (record_at l) p r) (record_at (set l p (record { entry = r }))) (take journal_size (new ∷ reversals b.journal)) (λ k. record_set l p r k inside))
            ∙ undoable-take net journal_size (changed (record_at l) p r) (new ∷ reversals b.journal)
            (first-undoable net (changed (record_at l) p r) new (reversals b.journal)
            (record {
              inside = n.inside;
              fits = o.records p;
              real = ap (λ (x : Record). is_empty x && is_empty old) (changed-same (record_at l) p r p refl) ∙ n.real;
              rest = sym (undoable-ext net (record_at l) (changed (changed (record_at l) p r) p old) (reversals b.journal) (changed-back (record_at l) p r)) ∙ o.undoes;
            })));
        normals = refl;
        places = length-set l p _ ∙ o.places;
        entries = length-set b.journal.entries b.journal.next _ ∙ o.entries;
      }

  pub sound-undone : 0 < b.journal.count → SoundParts (undone b)
  sound-undone some =
      let net = b.network in
      let l = b.places in
      let u = latest b.journal in
      let m = latest-undoes b o some in
      let inside : u.place < length l = let x : length l ≡ 256 = o.places in let y : u.place < 256 = m.inside in omega arith in
      record {
        network = o.network;
        records = each_set net l u.place u.prior inside m.fits o.records;
        journal = tidy_popped b.journal o.entries some o.journal;
        undoes =
            sym (undoable-ext net (changed (record_at l) u.place u.prior) (record_at (set l u.place (record { entry = u.prior }))) (reversals (popped b.journal)) (λ k. record_set l u.place u.prior k inside))
            ∙ m.rest;
        normals = refl;
        places = length-set l u.place _ ∙ o.places;
        entries = length-set b.journal.entries _ _ ∙ o.entries;
      }

  pub sound-next : (c : Call) → SoundParts (book_next b c)
  unfolding book_accepts call_no
  sound-next (Edit p c) = unless-either SoundParts (book_says b (Edit p c)) b _ o (λ e. sound-edited (place_of p) (puts c) (edit_may_put b p c _ _ refl refl e))
  sound-next Undo = unless-either SoundParts (book_says b Undo) b _ o (λ e. sound-undone (undo_zero b.journal.count e))
