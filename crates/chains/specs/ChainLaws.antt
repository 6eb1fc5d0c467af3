-- Test 2 says what it should: the search finds a station exactly where a chain ties it, and the unknown of refusal 11 is the first without a chain.
use Prim.Native.Nat.{ℕ, zero, suc, ◌+◌, ◌*◌, ◌/◌, ◌%◌, ◌<◌, ◌≤◌, ◌^◌}
use Rattle.std.specs.Prelude.{◌≡◌, refl, Bool, true, false, cond, List, [], ◌∷◌, ◌⊎◌, eqb, length, get_or}
use Rattle.std.proofs.Common.{sym, ◌∙◌, inl, inr, eqb-true, eq-eqb, ne_eqb}
use Rattle.std.proofs.Math.Path.{ap, fun_ext}
use Rattle.std.proofs.Math.Logic.{⊎_elim}
use native.Mathlib.Omega.{arith}
use Rattle.std.proofs.Math.Decide.{dec_lt}
use Rattle.std.proofs.Math.ListN.{get_or-eq_default}
use Rattle.integers.specs.Tables.{get_d_tabulate, length-tabulate}
use Rattle.words.specs.Bools.{clash, true_or_false, same_test}
use Rattle.lists.specs.All.{all_below, all_at, all_by}
use Rattle.network.specs.Stations.{unknown, number}
use Rattle.network.specs.StationLaws.{unknown_cases, number_mono}
use Rattle.network.specs.Records.{record_at, acts, is_position, from_of, to_of}
use Rattle.network.specs.declared.Station.{Station}
use Rattle.network.specs.declared.Network.{Network}
use Rattle.network.specs.declared.Record.{Record}
use Rattle.network.specs.declared.Place.{Place}
use Rattle.chains.specs.Bits.{bit, none_in, IsPut, put_sound, put_keeps, put_whole, put_fits}
use Rattle.chains.specs.Scans.{first_failing, first_fails, first_failing-none}
use Rattle.chains.specs.Search.{Joined, start, along as forth, back as return, Found, search_finds}
use Rattle.chains.specs.Chains.{Tied, held, positioned, along, back, EachTied, FirstWithoutChain, edge, edges, from_end, to_end, is_held, position_set, start_set, tied_set, is_tied, all_tied, first_untied}

-- what the search asks of the book: at most 32 stations, and ends among them
pub record EndsLow (places : List Place) : Type 0 where
  pub from : (p : ℕ) → p < 256 → from_of (record_at places p) < 32
  pub to : (p : ℕ) → p < 256 → to_of (record_at places p) < 32

pub record EndsInRange (net : Network) (places : List Place) : Type 0 where
  pub few : net.count ≤ 32
  pub ends : EndsLow places

-- the set w has the stations that are tied in c
pub record SameSet (net : Network) (places : List Place) (c w : ℕ) : Type 0 where
  pub same : (s : ℕ) → bit w s ≡ bit (tied_set net places c) s

-- component q is held, or its station is in the set found for the component
unfoldable pub held_or_in : List Station → List ℕ → ℕ → Bool
held_or_in stations found q = cond (eqb (unknown stations q) 0) true (bit (get_or found (q % 3) 0) (q / 3))

-- both ends of every edge are below 32
pub record Low (e : List ℕ) : Type 0 where
  pub low : (p : ℕ) → get_or e p 0 < 1024

pub low_ends : {e : List ℕ} → Low e → (p : ℕ) → (from_end e p < 32) × (to_end e p < 32)
low_ends w p = let l = w.low p in (omega arith, omega arith)

pub edge_yes : (c : ℕ) (r : Record) → acts c r ≡ true → edge c r ≡ from_of r * 32 + to_of r
unfolding edge
edge_yes c r e = rw e

pub edge_no : (c : ℕ) (r : Record) → acts c r ≡ false → edge c r ≡ 0
unfolding edge
edge_no c r e = rw e

pub edge-small : (c : ℕ) (r : Record) → from_of r < 32 → to_of r < 32 → edge c r < 1024
edge-small c r h k = ⊎_elim (λ e. rw (edge_yes c r e) (omega arith)) (λ e. rw (edge_no c r e) (omega arith)) (true_or_false (acts c r))

module _ (net : Network) (places : List Place) (c : ℕ) (g : EndsInRange net places) where
  abbrev f : ℕ → ℕ
  f = from_end (edges places c)

  abbrev t : ℕ → ℕ
  t = to_end (edges places c)

  edge_at : (p : ℕ) → p < 256 → get_or (edges places c) p 0 ≡ edge c (record_at places p)
  edge_at p h = get_d_tabulate 256 _ p 0 h

  -- an acting record is an edge between its ends
  from_is : (p : ℕ) → p < 256 → acts c (record_at places p) ≡ true → f p ≡ from_of (record_at places p)
  from_is p h a = let e = edge_at p h ∙ edge_yes c _ a in let l = g.ends.to p h in rw e (omega arith)

  to_is : (p : ℕ) → p < 256 → acts c (record_at places p) ≡ true → t p ≡ to_of (record_at places p)
  to_is p h a = let e = edge_at p h ∙ edge_yes c _ a in let l = g.ends.to p h in rw e (omega arith)

  -- one that does not act changes nothing: its two ends are one
  ends_same : (p : ℕ) → p < 256 → acts c (record_at places p) ≡ false → f p ≡ t p
  ends_same p h a = let e = edge_at p h ∙ edge_no c _ a in rw e (omega arith)

  abbrev h : ℕ
  h = start_set net places c

  pub tied_of : {s : ℕ} → Joined f t 256 h s → Tied net places c s
  tied_of (start {s = s} q) = ⊎_elim positioned_here held_here (put_sound (is_held net.stations c) (λ s. s) (position_set places) net.count s q)
    where
      held_here : IsPut (is_held net.stations c) (λ s. s) (position_set places) net.count s → Tied net places c s
      held_here r = let t : Tied net places c r.index = held r.below (eqb-true _ 0 r.passes) in rw r.is at t

      positioned_here : bit (position_set places) s ≡ true → Tied net places c s
      positioned_here b = ⊎_elim (none_in s) (λ r. positioned r.below r.passes r.is) (put_sound (λ p. is_position (record_at places p)) (λ p. to_of (record_at places p)) 0 256 s b)
  tied_of (forth {a = a} {b = b} {e = p} l u v j) = go (tied_of j) (true_or_false (acts c (record_at places p)))
    where
      go : Tied net places c a → (acts c (record_at places p) ≡ true) ⊎ (acts c (record_at places p) ≡ false) → Tied net places c b
      go i (inl y) = along l y (sym (from_is p l y) ∙ u) (sym (to_is p l y) ∙ v) i
      go i (inr n) = rw (sym u ∙ ends_same p l n ∙ v) at i
  tied_of (return {a = a} {b = b} {e = p} l u v j) = go (tied_of j) (true_or_false (acts c (record_at places p)))
    where
      go : Tied net places c b → (acts c (record_at places p) ≡ true) ⊎ (acts c (record_at places p) ≡ false) → Tied net places c a
      go i (inl y) = back l y (sym (from_is p l y) ∙ u) (sym (to_is p l y) ∙ v) i
      go i (inr n) = rw (sym v ∙ sym (ends_same p l n) ∙ u) at i

  pub joined_of : {s : ℕ} → Tied net places c s → Joined f t 256 h s
  joined_of (held {s = s} l e) = start (put_whole (is_held net.stations c) (λ s. s) (position_set places) net.count s l (eq-eqb _ 0 e))
  joined_of (positioned {p = p} l y e) =
      start (put_keeps (is_held net.stations c) (λ s. s) (position_set places) net.count _ (rw e at (put_whole (λ p. is_position (record_at places p)) (λ p. to_of (record_at places p)) 0 256 p l y)))
  joined_of (along {p = p} l y u v i) = forth l (from_is p l y ∙ u) (to_is p l y ∙ v) (joined_of i)
  joined_of (back {p = p} l y u v i) = return l (from_is p l y ∙ u) (to_is p l y ∙ v) (joined_of i)

  pub ends_low : Low (edges places c)
  ends_low = record { low = λ p. go p (dec_lt p 256) }
    where
      go : (p : ℕ) → Dec (p < 256) → get_or (edges places c) p 0 < 1024
      go p (yes l) = rw (edge_at p l) (edge-small c (record_at places p) (g.ends.from p l) (g.ends.to p l))
      go p (no l) = let b : length (edges places c) ≤ p = rw (length-tabulate 256 (λ p. edge c (record_at places p))) (omega arith) in rw (get_or-eq_default (edges places c) 0 {n = p} b) (omega arith)

  start_fits : h < 2 ^ 32
  start_fits =
      put_fits (is_held net.stations c) (λ s. s) (position_set places) net.count (λ s l. let few = g.few in omega arith)
      (put_fits (λ p. is_position (record_at places p)) (λ p. to_of (record_at places p)) 0 256 g.ends.to (omega arith))

  -- the search is exact
  finds : Found f t 256 h (tied_set net places c)
  unfolding tied_set
  finds = search_finds f t 256 h (low_ends ends_low) start_fits

  -- a station is in the set exactly where a chain ties it
  pub tied_sound : (s : ℕ) → bit (tied_set net places c) s ≡ true → Tied net places c s
  tied_sound s e = tied_of (finds.sound s e)

  pub tied_whole : (s : ℕ) → Tied net places c s → bit (tied_set net places c) s ≡ true
  tied_whole s j = finds.whole s (joined_of j)

  -- so any word that a search finds has the same numbers
  pub found-same : (w : ℕ) → Found f t 256 h w → SameSet net places c w
  found-same w r =
      record { same = λ s. same_test (bit w s) (bit (tied_set net places c) s) (λ e. finds.whole s (r.sound s e)) (λ e. r.whole s (finds.sound s e)) }

module _ (net : Network) (places : List Place) (g : EndsInRange net places) where
  -- component q is tied
  abbrev pub TiedAt : ℕ → Type 0
  TiedAt q = Tied net places (q % 3) (q / 3)

  is_tied_lem : (q : ℕ) → unknown net.stations q ≡ 1 → is_tied net places q ≡ bit (tied_set net places (q % 3)) (q / 3)
  unfolding is_tied
  is_tied_lem q u = rw (ne_eqb (unknown net.stations q) 0 (λ e. omega arith))

  tied_at : (q : ℕ) → unknown net.stations q ≡ 1 → is_tied net places q ≡ true → TiedAt q
  tied_at q u e = tied_sound net places (q % 3) g (q / 3) (sym (is_tied_lem q u) ∙ e)

  -- component c of station s, by its index in the station list
  at_index : (c s : ℕ) → c < 3 → TiedAt (s * 3 + c) → Tied net places c s
  at_index c s h t = let d : (s * 3 + c) / 3 ≡ s = omega arith in let m : (s * 3 + c) % 3 ≡ c = omega arith in rw (m, d) at t

  -- test 2 holds exactly where every unknown has a chain
  pub all_tied_lem : all_tied net places ≡ true → EachTied net places
  unfolding all_tied
  all_tied_lem e c s h l u = at_index c s h (tied_at (s * 3 + c) u (all_at 96 (is_tied net places) (s * 3 + c) e (omega arith)))

  pub tied_all : EachTied net places → all_tied net places ≡ true
  unfolding all_tied is_tied
  tied_all h =
      all_by 96 (is_tied net places) (λ q l.
      let i : q / 3 * 3 + q % 3 ≡ q = omega arith in
      ⊎_elim (λ e. rw (eq-eqb _ 0 e))
      (λ e. is_tied_lem q e ∙ tied_whole net places (q % 3) g (q / 3) (h (q % 3) (q / 3) (omega arith) (omega arith) (ap (unknown net.stations) i ∙ e)))
      (unknown_cases net.stations q))

  -- where it fails, `first_untied` is the first unknown without a chain
  pub first_untied_lem : all_tied net places ≡ false → FirstWithoutChain net places (first_untied net places)
  unfolding all_tied first_untied is_tied
  first_untied_lem e = go (first_fails (is_tied net places) 96 e) (unknown_cases net.stations (first_failing 96 (is_tied net places)))
    where
      q : ℕ
      q = first_failing 96 (is_tied net places)

      go : (q < 96) × ((is_tied net places q ≡ false) × (all_below q (is_tied net places) ≡ true)) → (unknown net.stations q ≡ 0) ⊎ (unknown net.stations q ≡ 1)
          → FirstWithoutChain net places (number net.stations q + 1)
      go r (inl z) = clash (rw (eq-eqb (unknown net.stations q) 0 z) refl) r.1.0
      go r (inr u) =
          let i : q / 3 * 3 + q % 3 ≡ q = omega arith in
          record {
            component = q % 3;
            station = q / 3;
            inside = (omega arith, omega (arith, r.0));
            is_unknown = ap (unknown net.stations) i ∙ u;
            numbered = ap (λ (k : ℕ). number net.stations k + 1) (sym i);
            untied = λ j. clash (is_tied_lem q u ∙ tied_whole net places (q % 3) g (q / 3) j) r.1.0;
            lower = λ c s h l v m. at_index c s h (tied_at (s * 3 + c) v (all_at q (is_tied net places) (s * 3 + c) r.1.1 (below (s * 3 + c) m (dec_lt (s * 3 + c) q))));
          }
        where
          below : (k : ℕ) → number net.stations k + 1 < number net.stations q + 1 → Dec (k < q) → k < q
          below k m (yes h) = h
          below k m (no h) = absurd (omega (arith, number_mono net.stations q k (omega arith)))

-- three sets that searches found stand for the tied stations
module _ {net : Network} {places : List Place} {east north up : ℕ} (a : SameSet net places 0 east) (b : SameSet net places 1 north) (d : SameSet net places 2 up) where
  found_at : (k s : ℕ) → k < 3 → bit (get_or (east ∷ north ∷ up ∷ []) k 0) s ≡ bit (tied_set net places k) s
  found_at zero s l = a.same s
  found_at (suc zero) s l = b.same s
  found_at (suc (suc zero)) s l = d.same s
  found_at (suc (suc (suc k))) s l = absurd (omega arith)

  pub first_found : first_failing 96 (held_or_in net.stations (east ∷ north ∷ up ∷ [])) ≡ first_failing 96 (is_tied net places)
  unfolding held_or_in is_tied
  first_found = ap (first_failing 96) (fun_ext (λ q. ap (cond (eqb (unknown net.stations q) 0) true) (found_at (q % 3) (q / 3) (omega arith))))

-- what the index of the first component that fails tells of test 2 and of the unknown of refusal 11
module _ (net : Network) (places : List Place) {q : ℕ} (e : q ≡ first_failing 96 (is_tied net places)) where
  pub untied_by : q < 96 → all_tied net places ≡ false
  unfolding all_tied
  untied_by l = ⊎_elim (λ a. absurd (let n = first_failing-none (is_tied net places) 96 a in omega arith)) (λ a. a) (true_or_false (all_below 96 (is_tied net places)))

  pub tied_by : 96 ≤ q → all_tied net places ≡ true
  unfolding all_tied
  tied_by l = ⊎_elim (λ a. a) (λ a. absurd (let n = (first_fails (is_tied net places) 96 a).0 in omega arith)) (true_or_false (all_below 96 (is_tied net places)))

  pub untied_number : first_untied net places ≡ number net.stations q + 1
  unfolding first_untied
  untied_number = ap (λ (k : ℕ). number net.stations k + 1) (sym e)
