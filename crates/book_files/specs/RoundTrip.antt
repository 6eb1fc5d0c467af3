-- What is written of a book, entered on a new book over the same stations, gives the same records, N and u, and each of its entries is accepted. Over bytes: dombrelat, specs/Files.antt.
-- Assumes nothing.
use Prim.Native.Nat.{ℕ, zero, suc, ◌<◌, ◌≤◌}
use Rattle.std.specs.Prelude.{◌≡◌, Bool, ℤ, pos}
use Rattle.std.proofs.Math.Path.{refl, ap, subst}
use Rattle.std.proofs.Common.{sym, ◌∙◌, arith}
use Rattle.std.proofs.Math.Bool.{true, false}
use mathlib.Core.List.{List, [], ◌∷◌, ◌++◌, map, append-nil}
use Rattle.std.proofs.Math.Decide.{ℕ_discrete}
use Rattle.std.proofs.Math.ListN.{get_or}
use Rattle.words.specs.SignedLaws.{index_suc}
use Rattle.network.specs.Records.{record_at, is_empty}
use Rattle.network.specs.Rules.{in_list, record_fits}
use Rattle.network.specs.RuleLaws.{filled-accepted, empty_is}
use Rattle.network.specs.declared.Network.{Network}
use Rattle.network.specs.declared.Record.{Record}
use Rattle.network.specs.declared.Record.TheVariants.{Empty}
use Rattle.normals.specs.Formulas.{normals_of}
use Rattle.book.specs.declared.Book.{Book}
use Rattle.book.specs.declared.Change.TheVariants.{Enter}
use Rattle.book.specs.declared.Call.{Call}
use Rattle.book.specs.declared.Call.TheVariants.{Edit}
use Rattle.book.specs.Calls.{place_of, first, place_no, change_no, call_no, puts, unless, changed}
use Rattle.book.specs.PlaceLaws.{changed-same, changed_other, record_set, is-places_of}
use Rattle.book.specs.SizeLaws.{size_none}
use Rattle.book.specs.Book.{opened_book, edited, book_accepts, book_says, book_next}
use Rattle.book.specs.Sound.{SoundParts}
use Rattle.book.specs.SoundLaws.{sound-next}
use Rattle.book.specs.Opened.{empty_at, sound-opened}
use Rattle.book.specs.Run.{final, answers, final-append, answers-append}
use Rattle.book_files.specs.Writing.{record_entries, entries_below, book_entries, all_carried}
use Rattle.book_files.specs.Entering.{call_in}
use Rattle.book_files.specs.Carried.{place_right, carried-at, entry_call}

-- ════ the statement
abbrev pub book_calls : Book → List Call
book_calls b = map call_in (book_entries b)

-- the new book over the same stations, with the entries entered
abbrev pub restored : Book → Book
restored b = final book_next (opened_book b.network) (book_calls b)

pub record RestoresBook (b : Book) : Type 0 where
  -- every answer is 0
  pub accepted : (k : ℕ) → get_or (answers book_next book_says (opened_book b.network) (book_calls b)) k 0 ≡ 0
  pub places : (restored b).places ≡ b.places
  pub normals : (restored b).normals ≡ b.normals

-- ════ an enter of a record by the rules at a place is accepted, whatever the place holds
module _ (x : Book) (o : SoundParts x) (p : ℕ) (h : p < 256) (r : Record) (fits : record_fits x.network r ≡ true) (filled : is_empty r ≡ false) where
  here : place_of (pos (suc p)) ≡ p
  here = index_suc p 256 h

  enter_says : book_says x (Edit (pos (suc p)) (Enter r)) ≡ 0
  unfolding call_no change_no place_no first
  enter_says =
      let place : in_list 256 (pos (suc p)) ≡ true = place_right p h in
      rw (place, filled-accepted x.network r fits filled) (size_none x.network (record_at x.places) o.network o.records (place_of (pos (suc p))) r fits)

  enter_next : book_next x (Edit (pos (suc p)) (Enter r)) ≡ edited x p r
  unfolding book_accepts puts unless
  enter_next = rw (enter_says, here)

  entered_at : (k : ℕ) → record_at (book_next x (Edit (pos (suc p)) (Enter r))).places k ≡ changed (record_at x.places) p r k
  entered_at k =
      ap (λ (b : Book). record_at b.places k) enter_next
      ∙ sym (record_set x.places p r k (let l = o.places in omega arith))

-- ════ place by place
zeros-append : (a b : List ℕ) → ((k : ℕ) → get_or a k 0 ≡ 0) → ((k : ℕ) → get_or b k 0 ≡ 0) → (k : ℕ) → get_or (a ++ b) k 0 ≡ 0
zeros-append [] b f g k = g k
zeros-append (x ∷ a) b f g zero = f 0
zeros-append (x ∷ a) b f g (suc k) = zeros-append a b (λ j. f (suc j)) g k

calls-append : (a b : List (List ℤ)) → map call_in (a ++ b) ≡ map call_in a ++ map call_in b
calls-append [] b = refl
calls-append (e ∷ a) b = ap (λ (l : List Call). call_in e ∷ l) (calls-append a b)

module _ (b : Book) (o : SoundParts b) (all : all_carried b ≡ true) where
  abbrev after : List Call → Book
  after cs = final book_next (opened_book b.network) cs

  -- the calls cs have entered the records of the places below n
  record Half (n : ℕ) (cs : List Call) : Type 0 where
    accepted : (k : ℕ) → get_or (answers book_next book_says (opened_book b.network) cs) k 0 ≡ 0
    network : (after cs).network ≡ b.network
    sound : SoundParts (after cs)
    below : (p : ℕ) → p < n → record_at (after cs).places p ≡ record_at b.places p
    above : (p : ℕ) → n ≤ p → record_at (after cs).places p ≡ Empty

  half-none : Half 0 []
  unfolding final answers
  half-none =
      record {
        accepted = λ k. refl;
        network = refl;
        sound = sound-opened b.network o.network;
        below = λ p h. absurd (omega arith);
        above = λ p h. empty_at 256 p;
      }

  -- an empty place
  half_empty : (n : ℕ) (cs : List Call) → is_empty (record_at b.places n) ≡ true → Half n cs → Half (suc n) cs
  half_empty n cs e h =
      record {
        accepted = h.accepted;
        network = h.network;
        sound = h.sound;
        below = λ p l. go p (ℕ_discrete p n) l;
        above = λ p l. h.above p (omega arith);
      }
    where
      go : (p : ℕ) → Dec (p ≡ n) → p < suc n → record_at (after cs).places p ≡ record_at b.places p
      go p (yes q) l = h.above p (omega arith) ∙ sym (ap (record_at b.places) q ∙ empty_is (record_at b.places n) e)
      go p (no q) l = h.below p (omega arith)

  -- a filled one
  module _ (n : ℕ) (inside : n < 256) (cs : List Call) (h : Half n cs) (f : is_empty (record_at b.places n) ≡ false) where
    abbrev r : Record
    r = record_at b.places n

    abbrev call : Call
    call = Edit (pos (suc n)) (Enter r)

    fits : record_fits (after cs).network r ≡ true
    fits = ap (λ (net : Network). record_fits net r) h.network ∙ o.records n

    last : after (cs ++ (call ∷ [])) ≡ book_next (after cs) call
    unfolding final
    last = final-append book_next (opened_book b.network) cs (call ∷ [])

    at : (k : ℕ) → record_at (after (cs ++ (call ∷ []))).places k ≡ changed (record_at (after cs).places) n r k
    at k = ap (λ (x : Book). record_at x.places k) last ∙ entered_at (after cs) h.sound n inside r fits f k

    half-filled : Half (suc n) (cs ++ (call ∷ []))
    unfolding answers
    half-filled =
        let says = enter_says (after cs) h.sound n inside r fits f in
        record {
          accepted =
              λ k. ap (λ (l : List ℕ). get_or l k 0) (answers-append book_next book_says (opened_book b.network) cs (call ∷ []))
              ∙ zeros-append (answers book_next book_says (opened_book b.network) cs) (book_says (after cs) call ∷ []) h.accepted (one says) k;
          network = ap (λ (x : Book). x.network) (last ∙ enter_next (after cs) h.sound n inside r fits f) ∙ h.network;
          sound = subst SoundParts (sym last) (sound-next (after cs) h.sound call);
          below = λ p l. at p ∙ go p (ℕ_discrete p n) l;
          above = λ p l. at p ∙ changed_other (record_at (after cs).places) n r p (λ q. absurd (omega arith)) ∙ h.above p (omega arith);
        }
      where
        one : {m : ℕ} → m ≡ 0 → (k : ℕ) → get_or (m ∷ []) k 0 ≡ 0
        one e zero = e
        one e (suc k) = refl

        go : (p : ℕ) → Dec (p ≡ n) → p < suc n → changed (record_at (after cs).places) n r p ≡ record_at b.places p
        go p (yes q) l = changed-same (record_at (after cs).places) n r p q ∙ sym (ap (record_at b.places) q)
        go p (no q) l = changed_other (record_at (after cs).places) n r p q ∙ h.below p (omega arith)

  half : (n : ℕ) → n ≤ 256 → Half n (map call_in (entries_below b.places n))
  unfolding entries_below record_entries
  half zero h = half-none
  half (suc n) h = rw (calls-append (entries_below b.places n) (record_entries n (record_at b.places n))) (go (is_empty (record_at b.places n)) refl (half n (omega arith)))
    where
      go : (t : Bool) → is_empty (record_at b.places n) ≡ t → Half n (map call_in (entries_below b.places n))
          → Half (suc n) (map call_in (entries_below b.places n) ++ map call_in (record_entries n (record_at b.places n)))
      go true e x = rw (e, append-nil (map call_in (entries_below b.places n))) (half_empty n (map call_in (entries_below b.places n)) e x)
      go false e x = rw (e, entry_call n (record_at b.places n) (carried-at b o all n (omega arith))) (half-filled n (omega arith) (map call_in (entries_below b.places n)) x e)

  pub restores : RestoresBook b
  restores =
      let h = half 256 (omega arith) in
      let x = restored b in
      let places : x.places ≡ b.places =
      is-places_of x.places (record_at b.places) h.sound.places (λ p l. h.below p l) ∙ sym (is-places_of b.places (record_at b.places) o.places (λ p l. refl)) in
      record {
        accepted = h.accepted;
        places = places;
        normals =
            h.sound.normals
            ∙ ap (λ (net : Network). normals_of net.stations x.places) h.network
            ∙ ap (normals_of b.network.stations) places
            ∙ sym o.normals;
      }
