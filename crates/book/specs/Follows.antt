-- A book follows the plain ledger, call by call. Assumes nothing.
use Rattle.std.specs.Prelude.{ℕ, zero, suc, ◌-◌, ◌<◌, ◌≡◌, true, List, [], ◌∷◌, length, take}
use Rattle.std.proofs.Math.Path.{refl}
use Rattle.std.proofs.Common.{sym, ap, ◌∙◌, subst, arith, eq-eqb, ne_eqb}
use Rattle.std.proofs.Math.Decide.{ℕ_discrete}
use Rattle.network.specs.Stations.{network_fits}
use Rattle.network.specs.Records.{record_at}
use Rattle.network.specs.declared.Network.{Network}
use Rattle.network.specs.declared.Record.{Record}
use Rattle.normals.specs.Formulas.{normals_of}
use Rattle.book.specs.declared.Reversal.{Reversal}
use Rattle.book.specs.declared.Book.{Book}
use Rattle.book.specs.declared.Call.{Call}
use Rattle.book.specs.declared.Call.TheVariants as call
use Rattle.book.specs.Calls.{place_of, call_no, changed, puts}
use Rattle.book.specs.Ledger.{StandingEdit, Ledger, empty_ledger, standing, rest, appended, accepted, ledger_says, ledger_next, ledger_normals}
use Rattle.book.specs.Journal.{journal_size, one_more, entries_before, reversals, latest, popped}
use Rattle.book.specs.Book.{edited, undone, book_accepts, book_says, book_next, opened_book}
use Rattle.book.specs.PlaceLaws.{changed-same, changed_other, record_set, is-places_of}
use Rattle.book.specs.JournalLaws.{reversals_push, reversals_pop}
use Rattle.book.specs.CallLaws.{call_same, undo_zero, unless-both}
use Rattle.book.specs.Sound.{SoundParts}
use Rattle.book.specs.SoundLaws.{MayPut, edit_may_put, latest-undoes, sound-edited, sound-undone}
use Rattle.book.specs.Opened.{empty_at, sound-opened}

-- ════ the journal against the standing edits: of each of the latest edits it has the place, and what the place held before
pub data Remembers : List Reversal → List StandingEdit → Type 0 where
  none : {l : List StandingEdit} → Remembers [] l
  more : {h : List Reversal} {l : List StandingEdit} (p : ℕ) (r : Record) → Remembers h l → Remembers (record { place = p; prior = standing l p } ∷ h) (record { place = p; puts = r } ∷ l)

remembers_take : (n : ℕ) {h : List Reversal} {l : List StandingEdit} → Remembers h l → Remembers (take n h) l
remembers_take zero m = none
remembers_take (suc n) none = none
remembers_take (suc n) (more p r m) = more p r (remembers_take n m)

standing-same : (e : StandingEdit) (l : List StandingEdit) (p : ℕ) → p ≡ e.place → standing (e ∷ l) p ≡ e.puts
unfolding standing
standing-same e l p w = rw (eq-eqb p e.place w)

standing_other : (e : StandingEdit) (l : List StandingEdit) (p : ℕ) → (p ≡ e.place → ⊥) → standing (e ∷ l) p ≡ standing l p
unfolding standing
standing_other e l p w = rw (ne_eqb p e.place w)

-- what taking the last edit off the list does to the records
record TakenBack (u : Reversal) (h : List Reversal) (l : List StandingEdit) : Type 0 where
  prior : u.prior ≡ standing (rest l) u.place
  others : (p : ℕ) → (p ≡ u.place → ⊥) → standing l p ≡ standing (rest l) p
  remembers : Remembers h (rest l)

taken_back : {u : Reversal} {h : List Reversal} {l : List StandingEdit} → Remembers (u ∷ h) l → TakenBack u h l
taken_back (more {h} {l} p r m) = record { prior = refl; others = λ k w. standing_other (record { place = p; puts = r }) l k w; remembers = m }

-- ════ a book follows a ledger
pub record Follows (net : Network) (b : Book) (l : Ledger) : Type 0 where
  pub network : b.network ≡ net
  pub sound : SoundParts b
  pub holds : (p : ℕ) → p < 256 → record_at b.places p ≡ standing l.edits p
  pub journal : Remembers (reversals b.journal) l.edits
  pub counted : b.journal.count ≡ l.count

module _ (net : Network) (b : Book) (l : Ledger) (o : Follows net b l) where
  pub says : (c : Call) → book_says b c ≡ ledger_says net l c
  says c =
      ap (λ (n : Network). call_no n (record_at b.places) b.journal.count c) o.network
      ∙ call_same net (record_at b.places) (standing l.edits) o.holds b.journal.count c
      ∙ ap (λ (n : ℕ). call_no net (standing l.edits) n c) o.counted

  pub follows_edited : (p : ℕ) (r : Record) → MayPut b p r → Follows net (edited b p r) (appended l p r)
  follows_edited p r n =
      let ps = b.places in
      let inside : p < length ps = let x : length ps ≡ 256 = o.sound.places in let y : p < 256 = n.inside in omega arith in
      record {
        network = o.network;
        sound = sound-edited b o.sound p r n;
        holds = λ j m. sym (record_set ps p r j inside) ∙ put j m (ℕ_discrete j p);
        journal =
            subst (λ (h : List Reversal). Remembers h (record { place = p; puts = r } ∷ l.edits))
            (sym (reversals_push b.journal (record { place = p; prior = record_at ps p }) o.sound.entries o.sound.journal))
            (remembers_take journal_size
            (subst (λ (x : Record). Remembers (record { place = p; prior = x } ∷ reversals b.journal) (record { place = p; puts = r } ∷ l.edits)) (sym (o.holds p n.inside))
            (more p r o.journal)));
        counted = ap one_more o.counted;
      }
    where
      put : (j : ℕ) → j < 256 → Dec (j ≡ p) → changed (record_at b.places) p r j ≡ standing (record { place = p; puts = r } ∷ l.edits) j
      put j m (yes e) = changed-same (record_at b.places) p r j e ∙ sym (standing-same (record { place = p; puts = r }) l.edits j e)
      put j m (no e) = changed_other (record_at b.places) p r j e ∙ o.holds j m ∙ sym (standing_other (record { place = p; puts = r }) l.edits j e)

  pub follows_undone : 0 < b.journal.count → Follows net (undone b) (record { edits = rest l.edits; count = l.count - 1 })
  follows_undone some =
      let j = b.journal in
      let u : Reversal = latest j in
      let ps = b.places in
      let m : TakenBack u (reversals (popped j)) l.edits =
      taken_back (subst (λ (x : List Reversal). Remembers x l.edits) (reversals_pop j some o.sound.journal) o.journal) in
      let inside : u.place < length ps = let x : length ps ≡ 256 = o.sound.places in let y : u.place < 256 = (latest-undoes b o.sound some).inside in omega arith in
      record {
        network = o.network;
        sound = sound-undone b o.sound some;
        holds = λ k q. sym (record_set ps u.place u.prior k inside) ∙ restored m k q (ℕ_discrete k u.place);
        journal = m.remembers;
        counted = ap (λ (n : ℕ). n - 1) o.counted;
      }
    where
      restored : {h : List Reversal} → TakenBack (latest b.journal) h l.edits → (k : ℕ) → k < 256 → Dec (k ≡ (latest b.journal).place)
          → changed (record_at b.places) (latest b.journal).place (latest b.journal).prior k ≡ standing (rest l.edits) k
      restored m k q (yes e) = changed-same (record_at b.places) _ _ k e ∙ m.prior ∙ ap (standing (rest l.edits)) (sym e)
      restored m k q (no e) = changed_other (record_at b.places) _ _ k e ∙ o.holds k q ∙ m.others k e

  pub follows_next : (c : Call) → Follows net (book_next b c) (ledger_next net l c)
  unfolding book_accepts accepted call_no
  follows_next (call.Edit p c) =
      unless-both (Follows net) (book_says b (call.Edit p c)) (ledger_says net l (call.Edit p c)) b _ l _ (says (call.Edit p c)) o (λ e. follows_edited (place_of p) (puts c) (edit_may_put b p c _ _ refl refl e))
  follows_next call.Undo =
      unless-both (Follows net) (book_says b call.Undo) (ledger_says net l call.Undo) b _ l _ (says call.Undo) o (λ e. follows_undone (undo_zero b.journal.count e))

  -- its N and u are the ledger's
  pub follows_normals : b.normals ≡ ledger_normals net l
  follows_normals =
      o.sound.normals
      ∙ ap (λ (n : Network). normals_of n.stations b.places) o.network
      ∙ ap (normals_of net.stations) (is-places_of b.places (standing l.edits) o.sound.places o.holds)

-- the opened book and the ledger before the first call
pub follows_opened : (net : Network) → network_fits net ≡ true → Follows net (opened_book net) empty_ledger
unfolding standing entries_before
follows_opened net g = record { network = refl; sound = sound-opened net g; holds = λ p h. empty_at 256 p; journal = none; counted = refl }
