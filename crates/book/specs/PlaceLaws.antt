-- One place changed: as a function of the place, and in the list of places. Assumes nothing.
use Rattle.std.specs.Prelude.{ℕ, ◌≤◌, ◌<◌, ◌≡◌, cond, List, eqb, length, set}
use Rattle.std.proofs.Common.{sym, ap, ◌∙◌, arith, eq-eqb, ne_eqb, get_or-set_same, get_or-set_other}
use Rattle.std.proofs.Math.Decide.{ℕ_discrete}
use Rattle.std.proofs.Math.ListN.{get_or-eq_default}
use Rattle.integers.specs.Tables.{get_d_tabulate, is-tabulate, tabulate-ext}
use Rattle.network.specs.Records.{vacant, record_at}
use Rattle.network.specs.declared.Place.{Place}
use Rattle.network.specs.declared.Record.{Record}
use Rattle.network.specs.declared.Record.TheVariants.{Empty}
use Rattle.book.specs.Calls.{changed, places_of}

pub changed-same : (at : ℕ → Record) (p : ℕ) (r : Record) (k : ℕ) → k ≡ p → changed at p r k ≡ r
unfolding changed
changed-same at p r k e = rw (eq-eqb k p e)

pub changed_other : (at : ℕ → Record) (p : ℕ) (r : Record) (k : ℕ) → (k ≡ p → ⊥) → changed at p r k ≡ at k
unfolding changed
changed_other at p r k e = rw (ne_eqb k p e)

pub changed-ext : (f g : ℕ → Record) (p : ℕ) (r : Record) (k : ℕ) → f k ≡ g k → changed f p r k ≡ changed g p r k
unfolding changed
changed-ext f g p r k e = ap (cond (eqb k p) r) e

-- what holds of the new record and of the old ones
pub changed-each : (P : Record → Type 0) (at : ℕ → Record) (p : ℕ) (r : Record) (k : ℕ) → P r → P (at k) → P (changed at p r k)
changed-each P at p r k new old = here (ℕ_discrete k p)
  where
    here : Dec (k ≡ p) → P (changed at p r k)
    here (yes e) = rw (changed-same at p r k e) new
    here (no e) = rw (changed_other at p r k e) old

-- a place changed and changed back
pub changed-back : (at : ℕ → Record) (p : ℕ) (r : Record) (k : ℕ) → at k ≡ changed (changed at p r) p (at p) k
changed-back at p r k = here (ℕ_discrete k p)
  where
    here : Dec (k ≡ p) → at k ≡ changed (changed at p r) p (at p) k
    here (yes e) = ap at e ∙ sym (changed-same (changed at p r) p (at p) k e)
    here (no e) = sym (changed_other (changed at p r) p (at p) k e ∙ changed_other at p r k e)

-- the record put into the list of places
pub record_set : (l : List Place) (p : ℕ) (r : Record) (k : ℕ) → p < length l → changed (record_at l) p r k ≡ record_at (set l p (record { entry = r })) k
record_set l p r k h = here (ℕ_discrete k p)
  where
    here : Dec (k ≡ p) → changed (record_at l) p r k ≡ record_at (set l p (record { entry = r })) k
    here (yes e) =
        changed-same (record_at l) p r k e
        ∙ sym (ap (λ (j : ℕ). record_at (set l p (record { entry = r })) j) e ∙ ap (λ (q : Place). q.entry) (get_or-set_same l p (record { entry = r }) vacant h))
    here (no e) =
        changed_other (record_at l) p r k e ∙ sym (ap (λ (q : Place). q.entry) (get_or-set_other l p k (record { entry = r }) vacant e))

pub places_of-at : (f : ℕ → Record) (p : ℕ) → p < 256 → record_at (places_of f) p ≡ f p
places_of-at f p h = ap (λ (q : Place). q.entry) (get_d_tabulate 256 (λ k. record { entry = f k }) p vacant h)

pub is-places_of : (l : List Place) (f : ℕ → Record) → length l ≡ 256 → ((p : ℕ) → p < 256 → record_at l p ≡ f p) → l ≡ places_of f
is-places_of l f e h = is-tabulate 256 (λ p. record { entry = f p }) l vacant e (λ k q. λ i. record { entry = h k q i })

pub places_of-ext : (f g : ℕ → Record) → ((p : ℕ) → p < 256 → f p ≡ g p) → places_of f ≡ places_of g
places_of-ext f g h = tabulate-ext 256 (λ p. record { entry = f p }) (λ p. record { entry = g p }) vacant (λ k q. λ i. record { entry = h k q i })

-- beyond the last place
pub record_beyond : (l : List Place) (p : ℕ) → length l ≡ 256 → 256 ≤ p → record_at l p ≡ Empty
record_beyond l p e h = ap (λ (q : Place). q.entry) (get_or-eq_default l vacant {n = p} (omega arith))
