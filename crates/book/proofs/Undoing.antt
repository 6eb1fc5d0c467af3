-- The walk back through the journal, one reversal at a time, over which places are empty; and that these are all it looks at. Assumes nothing.
use Prim.Native.Nat.{ℕ, zero, suc, ◌-◌, ◌<◌, ◌≤◌}
use mathlib.Core.Path.{◌≡◌, refl, sym, ap, ◌∙◌}
use mathlib.Core.Bool.{Bool, true, false, not, ◌&&◌}
use mathlib.Core.List.{List, [], ◌∷◌}
use native.Mathlib.Decide.{dec_lt, ℕ_discrete}
use native.Mathlib.Omega.{arith}
use borrow.Author.Tests.{lt-ltb, le-ltb}
use lib.Dec.{ltb}
use lib.ListN.{length, length-set, get_or, set}
use lib.Seq.{get_or-set_same, get_or-set_other}
use Rattle.integers.specs.Tables.{get_d_tabulate, length-tabulate}
use Rattle.words.specs.Bools.{and_left, and_right}
use Rattle.network.specs.Records.{record_at, is_empty}
use Rattle.network.specs.Rules.{record_fits}
use Rattle.network.specs.declared.Network.{Network}
use Rattle.network.specs.declared.Place.{Place}
use Rattle.network.specs.declared.Record.{Record}
use Rattle.book.specs.declared.Reversal.{Reversal}
use Rattle.book.specs.Calls.{changed}
use Rattle.book.specs.Journal.{free, slot_before, entries_before}
use Rattle.book.specs.Book.{undoable}
use Rattle.book.specs.Empties.{empties, undoable_by}
use Rattle.book.specs.PlaceLaws.{changed-same, changed_other}

-- a test of four parts, by its first or its two in the middle
fails_first : (a b c d : Bool) → a ≡ false → a && b && c && d ≡ false
fails_first a b c d e = rw e

fails_middle : (a b c d : Bool) → b && c ≡ false → a && b && c && d ≡ false
fails_middle true true c d e = rw e
fails_middle true false c d e = refl
fails_middle false b c d e = refl

passes : (a b c d : Bool) → a ≡ true → b && c ≡ true → a && b && c && d ≡ d
passes a b c d e f = rw (e, and_left b c f, and_right b c f)

-- two such tests whose last parts agree where the first holds
agree : (n m : ℕ) (b c d x y : Bool) → (n < m → c ≡ x) → (n < m → d ≡ y) → ltb n m && b && c && d ≡ (ltb n m && b && x && y)
agree n m b c d x y p q = go (dec_lt n m)
  where
    go : Dec (n < m) → ltb n m && b && c && d ≡ (ltb n m && b && x && y)
    go (yes l) = λ i. ltb n m && b && p l i && q l i
    go (no l) = let e : ltb n m ≡ false = le-ltb n m (omega arith) in fails_first (ltb n m) b c d e ∙ sym (fails_first (ltb n m) b x y e)

-- ════ the list tells which places are empty
record Tells (at : ℕ → Record) (empty : List Bool) : Type 0 where
  pub long : length empty ≡ 256
  pub tells : (p : ℕ) → p < 256 → get_or empty p false ≡ is_empty (at p)

tells_changed : (at : ℕ → Record) (empty : List Bool) (p : ℕ) (r : Record) → p < 256 → Tells at empty → Tells (changed at p r) (set empty p (is_empty r))
tells_changed at empty p r h t = record { long = length-set empty p (is_empty r) ∙ t.long; tells = λ k l. here k l (ℕ_discrete k p) }
  where
    inside : p < length empty
    inside = let e : length empty ≡ 256 = t.long in omega arith

    here : (k : ℕ) → k < 256 → Dec (k ≡ p) → get_or (set empty p (is_empty r)) k false ≡ is_empty (changed at p r k)
    here k l (yes e) = ap (λ (m : ℕ). get_or (set empty p (is_empty r)) m false) e ∙ get_or-set_same empty p (is_empty r) false inside ∙ ap is_empty (sym (changed-same at p r k e))
    here k l (no e) = get_or-set_other empty p k (is_empty r) false e ∙ t.tells k l ∙ ap is_empty (sym (changed_other at p r k e))

tells_undoable : (net : Network) (at : ℕ → Record) (empty : List Bool) (h : List Reversal) → Tells at empty → undoable_by net empty h ≡ undoable net at h
unfolding undoable undoable_by
tells_undoable net at empty [] t = refl
tells_undoable net at empty (u ∷ h) t =
    agree u.place 256 (record_fits net u.prior) _ _ _ _ (λ l. ap (λ (b : Bool). not (b && is_empty u.prior)) (t.tells u.place l))
    (λ l. tells_undoable net (changed at u.place u.prior) (set empty u.place (is_empty u.prior)) h (tells_changed at empty u.place u.prior l t))

pub by_empties : (net : Network) (places : List Place) (h : List Reversal) → undoable_by net (empties places) h ≡ undoable net (record_at places) h
by_empties net places h =
    tells_undoable net (record_at places) (empties places) h (record { long = length-tabulate 256 _; tells = λ p l. get_d_tabulate 256 _ p false l })

-- ════ one reversal
-- of what restores a reversal: the rules, and that it does not take an empty place back to empty
abbrev restoring : Network → Bool → Record → Bool
restoring net empty prior = record_fits net prior && not (empty && is_empty prior)

next_entry : (entries : List Reversal) (slot left : ℕ) → 0 < left → entries_before entries slot left ≡ get_or entries (slot_before slot) free ∷ entries_before entries (slot_before slot) (left - 1)
unfolding entries_before
next_entry entries slot left h =
    ap (entries_before entries slot) (let e : left ≡ suc (left - 1) = omega arith in e)

module _ (net : Network) (entries : List Reversal) (empty : List Bool) (slot left : ℕ) (some : 0 < left) (u : Reversal) (is : u ≡ get_or entries (slot_before slot) free) where
  here : undoable_by net empty (entries_before entries slot left) ≡ undoable_by net empty (u ∷ entries_before entries (slot_before slot) (left - 1))
  here = ap (undoable_by net empty) (next_entry entries slot left some ∙ ap (λ (x : Reversal). x ∷ entries_before entries (slot_before slot) (left - 1)) (sym is))

  -- a reversal of no place
  pub undo_beyond : 256 ≤ u.place → undoable_by net empty (entries_before entries slot left) ≡ false
  unfolding undoable_by
  undo_beyond h = here ∙ fails_first (ltb u.place 256) (record_fits net u.prior) (not (get_or empty u.place false && is_empty u.prior)) _ (le-ltb _ _ h)

  -- one that restores nothing that a place may hold
  pub undo_fails : restoring net (get_or empty u.place false) u.prior ≡ false → undoable_by net empty (entries_before entries slot left) ≡ false
  unfolding undoable_by
  undo_fails h = here ∙ fails_middle (ltb u.place 256) (record_fits net u.prior) (not (get_or empty u.place false && is_empty u.prior)) _ h

  -- one that does: the walk goes on over the places as they were before
  pub undo_goes_on : u.place < 256 → restoring net (get_or empty u.place false) u.prior ≡ true
      → undoable_by net empty (entries_before entries slot left) ≡ undoable_by net (set empty u.place (is_empty u.prior)) (entries_before entries (slot_before slot) (left - 1))
  unfolding undoable_by
  undo_goes_on h r = here ∙ passes (ltb u.place 256) (record_fits net u.prior) (not (get_or empty u.place false && is_empty u.prior)) _ (lt-ltb _ _ h) r

pub undo_ends : (net : Network) (entries : List Reversal) (empty : List Bool) (slot left : ℕ) → left ≤ 0 → true ≡ undoable_by net empty (entries_before entries slot left)
unfolding entries_before undoable_by
undo_ends net entries empty slot zero h = refl
undo_ends net entries empty slot (suc left) h = absurd (omega arith)
