-- What the range tests of a record say, as bounds. Assumes nothing.
use Rattle.std.specs.Prelude.{ℕ, ◌≤◌, ◌≡◌, true, [], ◌∷◌, get_or, pos, nat_abs}
use Rattle.std.proofs.Common.{zero-le, le_trans, leb-true, lit≤}
use Rattle.words.specs.Bools.{and_left, and_right}
use Rattle.words.specs.SignedLaws.{between-size}
use Rattle.lists.specs.All.{each}
use Rattle.lists.specs.Sizes.{small_at}
use Rattle.weights.specs.Rules.{weight_fits, weights_in_range}
use Rattle.weights.specs.Ranges.{Weight, WeightsRange, SmallWeights, weight_range, weights_range, small-weights}
use Rattle.network.specs.Records.{weight_matrix_of, reduced_up, reduced}
use Rattle.network.specs.Stations.{coordinate_fits}
use Rattle.network.specs.Rules.{observed_fits, height_above_mark_fits, up_in_range, baseline_in_range, height_in_range, position_in_range, in_range}
use Rattle.network.specs.declared.Baseline.{Baseline}
use Rattle.network.specs.declared.Level.{Level}
use Rattle.network.specs.declared.Position.{Position}
use Rattle.network.specs.declared.Record.{Record}
use Rattle.network.specs.declared.Record.TheVariants.{Empty, Baseline as baseline, Height as height, Position as position}

pub record BaselineRange (b : Baseline) : Type 0 where
  pub east : nat_abs b.east ≤ 1000000000
  pub north : nat_abs b.north ≤ 1000000000
  pub up : nat_abs b.up ≤ 1000000000
  pub hf : nat_abs b.hf ≤ 300000
  pub ht : nat_abs b.ht ≤ 300000
  pub reduced : nat_abs (reduced_up b) ≤ 1000000000
  pub weights : WeightsRange (weight_matrix_of (baseline b))

pub record HeightRange (h : Level) : Type 0 where
  pub up : nat_abs h.up ≤ 1000000000
  pub weight : Weight h.weight

pub baseline_range : (b : Baseline) → baseline_in_range b ≡ true → BaselineRange b
unfolding baseline_in_range up_in_range
baseline_range b e =
    let t = each (observed_fits b.east ∷ observed_fits b.north ∷ up_in_range b ∷ weights_in_range (weight_matrix_of (baseline b)) ∷ []) e in
    let u = each (observed_fits b.up ∷ height_above_mark_fits b.hf ∷ height_above_mark_fits b.ht ∷ observed_fits (reduced_up b) ∷ []) t.1.1.0 in
    record {
      east = leb-true (nat_abs b.east) 1000000000 t.0;
      north = leb-true (nat_abs b.north) 1000000000 t.1.0;
      up = leb-true (nat_abs b.up) 1000000000 u.0;
      hf = between-size 0 300000 b.hf u.1.0;
      ht = between-size 0 300000 b.ht u.1.1.0;
      reduced = leb-true (nat_abs (reduced_up b)) 1000000000 u.1.1.1.0;
      weights = weights_range (weight_matrix_of (baseline b)) t.1.1.1.0;
    }

pub height_range : (h : Level) → height_in_range h ≡ true → HeightRange h
unfolding height_in_range
height_range h e =
    record {
      up = leb-true (nat_abs h.up) 1000000000 (and_left (observed_fits h.up) (weight_fits h.weight) e);
      weight = weight_range h.weight (and_right (observed_fits h.up) (weight_fits h.weight) e);
    }

pub record PositionRange (p : Position) : Type 0 where
  pub east : nat_abs p.east ≤ 500000000
  pub north : nat_abs p.north ≤ 500000000
  pub up : nat_abs p.up ≤ 500000000
  pub weights : WeightsRange (weight_matrix_of (position p))

pub position_range : (p : Position) → position_in_range p ≡ true → PositionRange p
unfolding position_in_range
position_range p e =
    let t = each (coordinate_fits p.east ∷ coordinate_fits p.north ∷ coordinate_fits p.up ∷ weights_in_range (weight_matrix_of (position p)) ∷ []) e in
    record {
      east = leb-true (nat_abs p.east) 500000000 t.0;
      north = leb-true (nat_abs p.north) 500000000 t.1.0;
      up = leb-true (nat_abs p.up) 500000000 t.1.1.0;
      weights = weights_range (weight_matrix_of (position p)) t.1.1.1.0;
    }

-- what a misclosure is taken from is small
pub values-small : (r : Record) → in_range r ≡ true → (a : ℕ) → nat_abs (get_or (reduced r) a (pos 0)) ≤ 1000000000
unfolding in_range reduced
values-small Empty e = small_at 1000000000 (reduced Empty) (zero-le, (zero-le, (zero-le, tt)))
values-small (baseline b) e = let v = baseline_range b e in small_at 1000000000 (reduced (baseline b)) (v.east, (v.north, (v.reduced, tt)))
values-small (height h) e = small_at 1000000000 (reduced (height h)) (zero-le, (zero-le, ((height_range h e).up, tt)))
values-small (position p) e =
    let v = position_range p e in
    small_at 1000000000 (reduced (position p)) (le_trans v.east (lit≤ tt), (le_trans v.north (lit≤ tt), (le_trans v.up (lit≤ tt), tt)))

-- and so are its weights
pub weights-small : (r : Record) → in_range r ≡ true → SmallWeights (weight_matrix_of r)
unfolding in_range
weights-small Empty e = record { ee = zero-le; en = zero-le; eu = zero-le; nn = zero-le; nu = zero-le; uu = zero-le }
weights-small (baseline b) e = small-weights (baseline_range b e).weights
weights-small (height h) e = record { ee = zero-le; en = zero-le; eu = zero-le; nn = zero-le; nu = zero-le; uu = (height_range h e).weight.most }
weights-small (position p) e = small-weights (position_range p e).weights
