-- The unknowns of one station: which of its components are unknown, and their numbers, from how many unknowns stand before it; and a record's ends, made of two. Assumes nothing.
use Prim.Native.Nat.{ℕ, zero, suc, ◌+◌, ◌*◌, ◌<◌, ◌≤◌}
use mathlib.Core.Path.{◌≡◌, refl, sym, ap, ap₂, ◌∙◌}
use mathlib.Core.List.{List, [], ◌∷◌}
use native.Mathlib.Omega.{arith}
use lib.ListN.{get_or}
use lib.IntN.{ℤ, pos, nat_abs, ◌-ℤ◌, ◌*ℤ◌}
use Rattle.integers.specs.Tables.{get_d_tabulate}
use Rattle.lists.specs.Stored.{stored, back}
use Rattle.network.specs.declared.Kind.{Kind}
use Rattle.network.specs.declared.Station.{Station}
use Rattle.network.specs.Stations.{unknown_in, unknown, number, unknown_index, unknown_table, index_table, station_at}
use Rattle.network.specs.StationLaws.{bit_in, unknown-bit, unknown-at, number-+1, number_small}
use Rattle.normals.specs.declared.StationUnknowns.{StationUnknowns}
use Rattle.normals.specs.Equations.{end_indices, coefs}
use Rattle.normals.specs.Shares.{unknowns_at}
use Rattle.normals.proofs.Steps.{from_coef}

module _ (st : List Station) (s : ℕ) where
  abbrev kind : Kind
  kind = (station_at st s).kind

  pub unknown-E : unknown st (s * 3) ≡ unknown_in kind 0
  unknown-E = ap (unknown st) (let e : s * 3 ≡ s * 3 + 0 = omega arith in e) ∙ unknown-at st s 0 (omega arith)

  pub unknown-N : unknown st (s * 3 + 1) ≡ unknown_in kind 1
  unknown-N = unknown-at st s 1 (omega arith)

  pub unknown-U : unknown st (s * 3 + 2) ≡ unknown_in kind 2
  unknown-U = unknown-at st s 2 (omega arith)

  number-N : number st (s * 3 + 1) ≡ number st (s * 3) + unknown_in kind 0
  number-N = number-+1 st (s * 3) ∙ ap (λ (b : ℕ). number st (s * 3) + b) unknown-E

  number-U : number st (s * 3 + 2) ≡ number st (s * 3) + unknown_in kind 0 + unknown_in kind 1
  number-U = ap (number st) (let e : s * 3 + 2 ≡ s * 3 + 1 + 1 = omega arith in e) ∙ number-+1 st (s * 3 + 1) ∙ ap₂ ◌+◌ number-N unknown-N

  -- those before the next station
  pub number-next : number st ((s + 1) * 3) ≡ number st (s * 3) + unknown_in kind 0 + unknown_in kind 1 + unknown_in kind 2
  number-next = ap (number st) (let e : (s + 1) * 3 ≡ s * 3 + 2 + 1 = omega arith in e) ∙ number-+1 st (s * 3 + 2) ∙ ap₂ ◌+◌ number-U unknown-U

  -- the three numbers
  pub place_E : unknown_in kind 0 * number st (s * 3) ≡ unknown_index st (s * 3)
  unfolding unknown_index
  place_E = sym (ap (λ (b : ℕ). b * number st (s * 3)) unknown-E)

  pub place_N : unknown_in kind 1 * (number st (s * 3) + unknown_in kind 0) ≡ unknown_index st (s * 3 + 1)
  unfolding unknown_index
  place_N = sym (ap₂ ◌*◌ unknown-N number-N)

  pub place_U : unknown_in kind 2 * (number st (s * 3) + unknown_in kind 0 + unknown_in kind 1) ≡ unknown_index st (s * 3 + 2)
  unfolding unknown_index
  place_U = sym (ap₂ ◌*◌ unknown-U number-U)

-- what the code adds up stays small
pub record Counts (n e f u : ℕ) : Type 0 where
  pub before : n ≤ 96
  pub east : e ≤ 1
  pub north : f ≤ 1
  pub up : u ≤ 1

pub counts : (st : List Station) (s : ℕ) → s ≤ 32 → (k : Kind) (n e f u : ℕ) → n ≡ number st (s * 3) → e ≡ unknown_in k 0 → f ≡ unknown_in k 1 → u ≡ unknown_in k 2 → Counts n e f u
counts st s h k n e f u p a b c =
    let x = number_small st (s * 3) in
    let i = bit_in k 0 in
    let j = bit_in k 1 in
    let l = bit_in k 2 in
    record { before = omega arith; east = omega arith; north = omega arith; up = omega arith }

-- the three that the code has of a kind, as a list
module _ (k : Kind) {c : List ℕ} (q : c ≡ unknown_in k 0 ∷ unknown_in k 1 ∷ unknown_in k 2 ∷ []) where
  pub first : get_or c 0 0 ≡ unknown_in k 0
  first = ap (λ (l : List ℕ). get_or l 0 0) q

  pub second : get_or c 1 0 ≡ unknown_in k 1
  second = ap (λ (l : List ℕ). get_or l 1 0) q

  pub third : get_or c 2 0 ≡ unknown_in k 2
  third = ap (λ (l : List ℕ). get_or l 2 0) q

  pub counts_in : (st : List Station) (s : ℕ) → s ≤ 32 → (n : ℕ) → n ≡ number st (s * 3) → Counts n (get_or c 0 0) (get_or c 1 0) (get_or c 2 0)
  counts_in st s h n p = counts st s h k n _ _ _ p first second third

-- ════ a record's ends, from the unknowns of its two stations
unit : (st : List Station) (s : ℕ) (k : ℕ) → nat_abs (get_or (unknowns_at st s).unknown k (pos 0)) ≤ 1
unit st s zero = unknown-bit st (s * 3)
unit st s (suc zero) = unknown-bit st (s * 3 + 1)
unit st s (suc (suc zero)) = unknown-bit st (s * 3 + 2)
unit st s (suc (suc (suc k))) = let h : 0 ≤ 1 = omega arith in h

pub unit-at : (st : List Station) (s : ℕ) (a : StationUnknowns) → a ≡ unknowns_at st s → (k : ℕ) → nat_abs (get_or a.unknown k (pos 0)) ≤ 1
unit-at st s a e k = rw e (unit st s k)

module _ (st : List Station) (f t : ℕ) (hf : f < 32) (ht : t < 32) (a b : StationUnknowns) (p : a ≡ unknowns_at st f) (q : b ≡ unknowns_at st t) where
  at-is : (i : ℕ) → i < 96 → unknown_index st i ≡ get_or (index_table st) i 0
  at-is i h = sym (get_d_tabulate 96 (unknown_index st) i 0 h)

  unknown-is : (i : ℕ) → i < 96 → pos (unknown st i) ≡ get_or (unknown_table st) i (pos 0)
  unknown-is i h = sym (get_d_tabulate 96 (λ q. pos (unknown st q)) i (pos 0) h)

  pub ends_are : (get_or a.at 0 0 ∷ get_or a.at 1 0 ∷ get_or a.at 2 0 ∷ get_or b.at 0 0 ∷ get_or b.at 1 0 ∷ get_or b.at 2 0 ∷ []) ≡ end_indices (index_table st) f t
  ends_are =
      rw (p, q)
      (ap₂ ◌∷◌ (at-is (f * 3) (omega arith)) (ap₂ ◌∷◌ (at-is (f * 3 + 1) (omega arith)) (ap₂ ◌∷◌ (at-is (f * 3 + 2) (omega arith))
      (ap₂ ◌∷◌ (at-is (t * 3) (omega arith)) (ap₂ ◌∷◌ (at-is (t * 3 + 1) (omega arith)) (ap₂ ◌∷◌ (at-is (t * 3 + 2) (omega arith)) refl))))))

  module _ (g : ℤ) (u : nat_abs g ≤ 1) where
    from : (k i : ℕ) → i < 96 → get_or a.unknown k (pos 0) ≡ pos (unknown st i) → stored (pos 0 -ℤ stored (stored g *ℤ stored (get_or a.unknown k (pos 0)))) ≡ pos 0 -ℤ g *ℤ get_or (unknown_table st) i (pos 0)
    from k i h e = from_coef g (get_or a.unknown k (pos 0)) u (unit-at st f a p k) ∙ ap (λ (z : ℤ). pos 0 -ℤ g *ℤ z) (e ∙ unknown-is i h)

    to : (k i : ℕ) → i < 96 → get_or b.unknown k (pos 0) ≡ pos (unknown st i) → stored (get_or b.unknown k (pos 0)) ≡ get_or (unknown_table st) i (pos 0)
    to k i h e = back (get_or b.unknown k (pos 0)) (unit-at st t b q k) tt ∙ e ∙ unknown-is i h

    abbrev coef_at : ℕ → ℤ
    coef_at k = stored (pos 0 -ℤ stored (stored g *ℤ stored (get_or a.unknown k (pos 0))))

    abbrev unknown_at : ℕ → ℤ
    unknown_at k = stored (get_or b.unknown k (pos 0))

    pub coefs_are : (coef_at 0 ∷ coef_at 1 ∷ coef_at 2 ∷ unknown_at 0 ∷ unknown_at 1 ∷ unknown_at 2 ∷ []) ≡ coefs (unknown_table st) g f t
    coefs_are =
        let x : (k : ℕ) → get_or a.unknown k (pos 0) ≡ get_or (unknowns_at st f).unknown k (pos 0) = λ k. ap (λ (z : StationUnknowns). get_or z.unknown k (pos 0)) p in
        let y : (k : ℕ) → get_or b.unknown k (pos 0) ≡ get_or (unknowns_at st t).unknown k (pos 0) = λ k. ap (λ (z : StationUnknowns). get_or z.unknown k (pos 0)) q in
        ap₂ ◌∷◌ (from 0 (f * 3) (omega arith) (x 0)) (ap₂ ◌∷◌ (from 1 (f * 3 + 1) (omega arith) (x 1)) (ap₂ ◌∷◌ (from 2 (f * 3 + 2) (omega arith) (x 2))
        (ap₂ ◌∷◌ (to 0 (t * 3) (omega arith) (y 0)) (ap₂ ◌∷◌ (to 1 (t * 3 + 1) (omega arith) (y 1)) (ap₂ ◌∷◌ (to 2 (t * 3 + 2) (omega arith) (y 2)) refl)))))
