-- Laws of a record's shape and misclosures: what their code asks of it, and their sizes. Assumes nothing.
use Rattle.std.specs.Prelude.{ℕ, zero, suc, ◌+◌, ◌*◌, ◌<◌, ◌≤◌, ◌≡◌, refl, Bool, true, false, cond, List, [], ◌∷◌, ◌⊎◌, eqb, get_or, replicate, ℤ, pos, nat_abs, ◌+ℤ◌, ◌-ℤ◌, ◌*ℤ◌}
use Rattle.std.proofs.Common.{zero-le, ◌∙◌, inl, inr, arith, ne_eqb, lit≤}
use Rattle.std.proofs.lemmas.Bool.{eqb-false}
use Rattle.std.proofs.lemmas.List.{get_or-replicate}
use Rattle.std.proofs.Math.ListN.{get_or-append}
use Rattle.integers.specs.Bounds.{bounds, absle}
use Rattle.integers.specs.Solvers.{ring, shapes}
use Rattle.integers.specs.Tables.{Within}
use Rattle.network.specs.Units.{most_stations, most_components, most_coordinate, most_observed}
use Rattle.network.specs.declared.Baseline.{Baseline}
use Rattle.network.specs.declared.Record.{Record}
use Rattle.network.specs.declared.Record.TheVariants.{Empty, Baseline as baseline, Height as height, Position as position}
use Rattle.words.specs.Bools.{clash}
use Rattle.lists.specs.Sizes.{small_at}
use Rattle.network.specs.Rules.{in_range}
use Rattle.network.specs.Ranges.{values-small}
use Rattle.network.specs.Records.{observations, acts_of, acts, is_empty, is_position, from_of, to_of, joins, joins-one, weights, reduced_up, reduced, misclosure_at, misclosure_in, misclosures}

-- ════ shape
-- a record observes no component, one or three: what holds of these numbers holds of its own
pub by_observations : (r : Record) (Q : ℕ → Type 0) → Q 0 → Q 1 → Q 3 → Q (observations r)
unfolding observations
by_observations Empty Q none one three = none
by_observations (baseline b) Q none one three = three
by_observations (height h) Q none one three = one
by_observations (position p) Q none one three = three

pub observations_few : (r : Record) → observations r ≤ 3
observations_few r = by_observations r (λ n. n ≤ 3) (lit≤ tt) (lit≤ tt) (lit≤ tt)

-- one that acts in a component is not empty
pub acting_filled : (r : Record) (a : ℕ) → acts a r ≡ true → is_empty r ≡ false
unfolding acts acts_of is_empty
acting_filled r a e = go (observations r) e
  where
    go : (n : ℕ) → acts_of n a ≡ true → eqb n 0 ≡ false
    go zero h = clash h refl
    go (suc n) h = ne_eqb (suc n) 0 (λ z. absurd (omega arith))

-- a position acts in every component
pub position-acts : (r : Record) (a : ℕ) → is_position r ≡ true → acts a r ≡ true
unfolding is_position acts acts_of observations
position-acts Empty a e = clash e refl
position-acts (baseline b) a e = refl
position-acts (height h) a e = clash e refl
position-acts (position p) a e = refl

-- it has two ends, or stands at one station, which is both
pub joins_are : (r : Record) → (joins r ≡ pos 1) ⊎ ((joins r ≡ pos 0) × (from_of r ≡ to_of r))
unfolding joins from_of to_of
joins_are Empty = inr (refl, refl)
joins_are (baseline b) = inl refl
joins_are (height h) = inl refl
joins_are (position p) = inr (refl, refl)

-- its weights are 0 in a component in which it does not act
pub weight_not_acting : (r : Record) (a b : ℕ) → a < 3 → b < 3 → acts a r ≡ false → get_or (weights r) (a * 3 + b) (pos 0) ≡ pos 0
unfolding acts weights observations acts_of
weight_not_acting Empty a b p q e = get_or-replicate 9 (a * 3 + b) (pos 0) (pos 0) (omega arith)
weight_not_acting (baseline x) a b p q e = clash refl e
weight_not_acting (height x) a b p q e =
    let k : a * 3 + b < 8 = omega (arith, eqb-false a 2 e) in
    get_or-append (replicate 8 (pos 0)) (x.weight ∷ []) (pos 0) (a * 3 + b) k ∙ get_or-replicate 8 (a * 3 + b) (pos 0) (pos 0) k
weight_not_acting (position x) a b p q e = clash refl e

-- ════ misclosures
-- without antenna heights the observed U difference is the reduced one
add_none : (u : ℤ) → u +ℤ pos 0 -ℤ pos 0 ≡ u
add_none u = ring (u ∷ []) (search shapes depth 8) tt

pub no_heights : (b : Baseline) → b.hf ≡ pos 0 → b.ht ≡ pos 0 → reduced_up b ≡ b.up
unfolding reduced_up
no_heights b f t = rw (f, t) (add_none b.up)

-- a record whose ends are stations and whose values are in range, over provisional coordinates in range
pub record Observed (coordinate : List ℤ) (r : Record) : Type 0 where
  pub from : from_of r < most_stations
  pub to : to_of r < most_stations
  pub values : in_range r ≡ true
  pub provisional : Within most_components most_coordinate coordinate

misclosure_size : (c : List ℤ) (f t : ℕ) (j : ℤ) (a : ℕ) (o : ℤ) → nat_abs j ≤ 1 → nat_abs o ≤ most_observed → Within most_components most_coordinate c → nat_abs (misclosure_at c f t j a o) ≤ 2000000000
unfolding misclosure_at
misclosure_size c f t j a o k h w =
    let x = w.bound (t * 3 + a) in
    let y = w.bound (f * 3 + a) in
    absle (o -ℤ (get_or c (t * 3 + a) (pos 0) -ℤ j *ℤ get_or c (f * 3 + a) (pos 0))) (search bounds) (omega arith)

-- before they are judged, the misclosures fit 64 bits by far
pub misclosure_small : (c : List ℤ) (r : Record) → Observed c r → (a : ℕ) → nat_abs (misclosure_in c r a) ≤ 2000000000
unfolding misclosure_in
misclosure_small c r o a = go (acts a r)
  where
    go : (t : Bool) → nat_abs (cond t (misclosure_at c (from_of r) (to_of r) (joins r) a (get_or (reduced r) a (pos 0))) (pos 0)) ≤ 2000000000
    go true = misclosure_size c (from_of r) (to_of r) (joins r) a (get_or (reduced r) a (pos 0)) (joins-one r) (values-small r o.values a) o.provisional
    go false = zero-le

pub misclosures-small : (c : List ℤ) (r : Record) → Observed c r → (a : ℕ) → nat_abs (get_or (misclosures c r) a (pos 0)) ≤ 2000000000
unfolding misclosures
misclosures-small c r o = small_at 2000000000 (misclosures c r) (misclosure_small c r o 0, (misclosure_small c r o 1, (misclosure_small c r o 2, tt)))

-- each by its component
pub misclosure_at_lem : (c : List ℤ) (r : Record) (a : ℕ) → a < 3 → get_or (misclosures c r) a (pos 0) ≡ misclosure_in c r a
unfolding misclosures
misclosure_at_lem c r zero h = refl
misclosure_at_lem c r (suc zero) h = refl
misclosure_at_lem c r (suc (suc zero)) h = refl
misclosure_at_lem c r (suc (suc (suc a))) h = absurd (omega arith)

-- where the record does not act it is 0
pub misclosure_not_acting : (c : List ℤ) (r : Record) (a : ℕ) → acts a r ≡ false → misclosure_in c r a ≡ pos 0
unfolding misclosure_in
misclosure_not_acting c r a e = rw e refl
