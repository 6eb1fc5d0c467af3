-- Laws of the journal: what can be taken back after an edit goes on it, after the latest comes off, and after both. Assumes nothing.
use Rattle.std.specs.Prelude.{ℕ, zero, suc, ◌+◌, ◌-◌, ◌%◌, ◌≤◌, ◌<◌, min, ◌≡◌, refl, Bool, true, false, ◌&&◌, ◌||◌, List, [], ◌∷◌, eqb, leb, ltb, take, drop, length, set, get_or}
use Rattle.std.proofs.Common.{sym, ap, ◌∙◌, arith, eqb-true, lt-ltb, le-ltb, le-leb, ltb-true, leb-true, get_or-set_same, get_or-set_other}
use Rattle.std.proofs.Math.Decide.{ℕ_discrete, dec_lt}
use Rattle.std.proofs.lemmas.List.{set-get_or}
use Rattle.words.specs.Bools.{clash, and_left, and_right, and_both}
use Rattle.lists.specs.All.{all_at, all_by}
use Rattle.network.specs.Records.{is_empty, observations}
use Rattle.network.specs.RuleLaws.{empty_is}
use Rattle.network.specs.declared.Record.TheVariants.{Empty}
use Rattle.book.specs.declared.Reversal.{Reversal}
use Rattle.book.specs.declared.Journal.{Journal}
use Rattle.book.specs.Journal.{journal_size, slot_before, slot_after, one_more, age, free, entries_before, reversals, pushed, popped, latest, is_free, in_use, journal_fits}

-- what is stored in a slot is not among the k entries before a slot that lies d before it
untouched : (l : List Reversal) (slot : ℕ) (e : Reversal) (d k p : ℕ) → slot < journal_size → d + k ≤ (journal_size - 1) → p ≡ (slot + (journal_size - d)) % journal_size
    → entries_before (set l slot e) p k ≡ entries_before l p k
unfolding entries_before
untouched l slot e d zero p h m q = refl
untouched l slot e d (suc k) p h m q =
    let other : slot_before p ≡ slot → ⊥ = λ w. omega arith in
    ap (λ (u : Reversal). u ∷ entries_before (set l slot e) (slot_before p) k) (get_or-set_other l slot (slot_before p) e free other)
    ∙ ap (λ (r : List Reversal). get_or l (slot_before p) free ∷ r) (untouched l slot e (d + 1) k (slot_before p) h (omega arith) (omega arith))

fewer : (l : List Reversal) (p m k : ℕ) → take m (entries_before l p k) ≡ entries_before l p (min m k)
unfolding entries_before
fewer l p zero k = ap (entries_before l p) (let e : 0 ≡ min 0 k = omega arith in e)
fewer l p (suc m) zero = ap (entries_before l p) (let e : 0 ≡ min (suc m) 0 = omega arith in e)
fewer l p (suc m) (suc k) =
    ap (λ (r : List Reversal). get_or l (slot_before p) free ∷ r) (fewer l (slot_before p) m k)
    ∙ ap (entries_before l p) (let e : suc (min m k) ≡ min (suc m) (suc k) = omega arith in e)

-- what a free slot holds
pub is_free_lem : (u : Reversal) → is_free u ≡ true → u ≡ free
unfolding is_free
is_free_lem u e =
    let place : u.place ≡ 0 = eqb-true _ _ (and_left (eqb u.place 0) (is_empty u.prior) e) in
    let prior : u.prior ≡ Empty = empty_is u.prior (and_right (eqb u.place 0) (is_empty u.prior) e) in
    λ i. record { place = place i; prior = prior i }

-- the slot before the one after
back_again : (slot : ℕ) → slot < journal_size → slot_before (slot_after slot) ≡ slot
back_again slot h = omega arith

-- the counters in range, and the slots not in use free
pub record Tidy (j : Journal) : Type 0 where
  pub next : j.next < journal_size
  pub count : j.count ≤ journal_size
  pub blank : (slot : ℕ) → slot < journal_size → j.count ≤ age j.next slot → is_free (get_or j.entries slot free) ≡ true

tidy_slot : (a b : Bool) → a || b ≡ true → a ≡ false → b ≡ true
tidy_slot true b e f = clash refl f
tidy_slot false b e f = e

slot_tidy : (j : Journal) (slot : ℕ) → (j.count ≤ age j.next slot → is_free (get_or j.entries slot free) ≡ true) → in_use j slot || is_free (get_or j.entries slot free) ≡ true
slot_tidy j slot h = go (dec_lt (age j.next slot) j.count)
  where
    go : Dec (age j.next slot < j.count) → in_use j slot || is_free (get_or j.entries slot free) ≡ true
    go (yes e) = rw (lt-ltb (age j.next slot) j.count e)
    go (no e) = rw (le-ltb (age j.next slot) j.count (omega arith)) (h (omega arith))

pub fits_tidy : (j : Journal) → journal_fits j ≡ true → Tidy j
unfolding journal_fits
fits_tidy j e =
    let both = and_left (ltb j.next journal_size && leb j.count journal_size) _ e in
    record {
      next = ltb-true _ _ (and_left (ltb j.next journal_size) (leb j.count journal_size) both);
      count = leb-true _ _ (and_right (ltb j.next journal_size) (leb j.count journal_size) both);
      blank = λ slot h q.
          tidy_slot _ _ (all_at journal_size (λ s. in_use j s || is_free (get_or j.entries s free)) slot (and_right (ltb j.next journal_size && leb j.count journal_size) _ e) h)
          (le-ltb (age j.next slot) j.count q);
    }

pub tidy_fits : (j : Journal) → Tidy j → journal_fits j ≡ true
unfolding journal_fits
tidy_fits j t =
    and_both _ _ (and_both _ _ (lt-ltb j.next journal_size t.next) (le-leb j.count journal_size t.count))
    (all_by journal_size (λ s. in_use j s || is_free (get_or j.entries s free)) (λ slot h. slot_tidy j slot (t.blank slot h)))

-- "which keeps the latest 64; a 65th pushes out the oldest"
pub reversals_push : (j : Journal) (e : Reversal) → length j.entries ≡ journal_size → Tidy j → reversals (pushed j e) ≡ take journal_size (e ∷ reversals j)
unfolding entries_before
reversals_push j e len t =
    let l = j.entries in
    let slot = j.next in
    let k = j.count in
    let p : slot < journal_size = t.next in
    let q : k ≤ journal_size = t.count in
    ap (λ (n : ℕ). entries_before (set l slot e) (slot_after slot) n) (let w : one_more k ≡ suc (min (journal_size - 1) k) = omega arith in w)
    ∙ ap (λ (n : ℕ). get_or (set l slot e) n free ∷ entries_before (set l slot e) n (min (journal_size - 1) k)) (back_again slot p)
    ∙ ap (λ (u : Reversal). u ∷ entries_before (set l slot e) slot (min (journal_size - 1) k)) (get_or-set_same l slot e free (omega arith))
    ∙ ap (λ (r : List Reversal). e ∷ r) (untouched l slot e 0 (min (journal_size - 1) k) slot p (omega arith) (omega arith) ∙ sym (fewer l slot (journal_size - 1) k))

pub tidy_pushed : (j : Journal) (e : Reversal) → length j.entries ≡ journal_size → Tidy j → Tidy (pushed j e)
tidy_pushed j e len t =
    let p : j.next < journal_size = t.next in
    let q : j.count ≤ journal_size = t.count in
    record {
      next = omega arith;
      count = omega arith;
      blank = λ slot h w.
          let other : slot ≡ j.next → ⊥ = λ x. omega arith in
          ap is_free (get_or-set_other j.entries j.next slot e free other) ∙ t.blank slot h (omega arith);
    }

-- "Undo takes the latest off"
pub reversals_pop : (j : Journal) → 0 < j.count → Tidy j → reversals j ≡ latest j ∷ reversals (popped j)
unfolding entries_before
reversals_pop j some t =
    let l = j.entries in
    let p : j.next < journal_size = t.next in
    let q : j.count ≤ journal_size = t.count in
    ap (entries_before l j.next) (let w : j.count ≡ suc (j.count - 1) = omega arith in w)
    ∙ ap (λ (r : List Reversal). get_or l (slot_before j.next) free ∷ r)
    (sym (untouched l (slot_before j.next) free 0 (j.count - 1) (slot_before j.next) (omega arith) (omega arith) (omega arith)))

pub tidy_popped : (j : Journal) → length j.entries ≡ journal_size → 0 < j.count → Tidy j → Tidy (popped j)
unfolding is_free is_empty observations
tidy_popped j len some t =
    let p : j.next < journal_size = t.next in
    let q : j.count ≤ journal_size = t.count in
    record { next = omega arith; count = omega arith; blank = λ slot h w. here slot h w (ℕ_discrete slot (slot_before j.next)) }
  where
    here : (slot : ℕ) → slot < journal_size → j.count - 1 ≤ age (slot_before j.next) slot → Dec (slot ≡ slot_before j.next) → is_free (get_or (popped j).entries slot free) ≡ true
    here slot h w (yes e) = ap (λ (k : ℕ). is_free (get_or (popped j).entries k free)) e ∙ ap is_free (get_or-set_same j.entries (slot_before j.next) free free (omega arith))
    here slot h w (no e) =
        let p : j.next < journal_size = t.next in
        let q : j.count ≤ journal_size = t.count in
        ap is_free (get_or-set_other j.entries (slot_before j.next) slot free free e) ∙ t.blank slot h (omega arith)

-- ════ an edit goes on and comes off
pub set_again : {A : Type 0} (l : List A) (i : ℕ) (a b : A) → set (set l i a) i b ≡ set l i b
set_again [] i a b = refl
set_again (x ∷ l) zero a b = refl
set_again {A} (x ∷ l) (suc i) a b = ap (λ (r : List A). x ∷ r) (set_again l i a b)

module _ (j : Journal) (u : Reversal) (long : length j.entries ≡ journal_size) (t : Tidy j) where
  pub latest-pushed : latest (pushed j u) ≡ u
  latest-pushed =
      let p : j.next < journal_size = t.next in
      ap (λ (n : ℕ). get_or (set j.entries j.next u) n free) (back_again j.next p) ∙ get_or-set_same j.entries j.next u free (omega arith)

  pub history_back : reversals (popped (pushed j u)) ≡ take (journal_size - 1) (reversals j)
  history_back =
      ap (λ (h : List Reversal). drop 1 h) (sym (reversals_pop (pushed j u) (omega arith) (tidy_pushed j u long t)) ∙ reversals_push j u long t)

  pub journal_back : j.count < journal_size → popped (pushed j u) ≡ j
  journal_back few =
      let p : j.next < journal_size = t.next in
      let home = back_again j.next p in
      let was : get_or j.entries j.next free ≡ free = is_free_lem _ (t.blank j.next p (omega arith)) in
      let entries : set (set j.entries j.next u) (slot_before (slot_after j.next)) free ≡ j.entries =
      ap (λ (n : ℕ). set (set j.entries j.next u) n free) home
      ∙ set_again j.entries j.next u free
      ∙ ap (set j.entries j.next) (sym was)
      ∙ set-get_or j.entries j.next free in
      let count : one_more j.count - 1 ≡ j.count = omega arith in
      λ i. record { entries = entries i; next = home i; count = count i }
