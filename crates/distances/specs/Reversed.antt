-- A distance taped from the other end: the ends exchanged, and with them the heights. It gets the same answer. Assumes nothing.
use Rattle.std.specs.Prelude.{ℕ, ◌≡◌, refl, Bool, true, false, not, ◌&&◌, List, [], ◌∷◌, eqb, ℤ, pos, negsuc}
use Rattle.std.proofs.Common.{sym, ap, ap₂, ◌∙◌, eq-eqb, ne_eqb}
use Rattle.std.proofs.Math.Decide.{ℕ_discrete}
use Rattle.std.specs.Int.Signed.{le_z, lt_z}
use Rattle.integers.specs.Solvers.{ring, shapes}
use Rattle.words.specs.Signed.{eq_z}
use Rattle.network.specs.Rules.{in_list, ends_fit, height_above_mark_fits}
use Rattle.book.specs.declared.Book.{Book}
use Rattle.distances.specs.declared.CheckDistance.{CheckDistance}
use Rattle.distances.specs.Distances.{distance_in_range, squared_distance, mark, unless_refused, agreement}

abbrev pub reversed : CheckDistance → CheckDistance
reversed d = record { from = d.to; to = d.from; distance = d.distance; instrument = d.target; target = d.instrument; tolerance = d.tolerance }

-- ════ tests whose order does not matter
and_comm : (a b : Bool) → a && b ≡ b && a
and_comm true true = refl
and_comm true false = refl
and_comm false true = refl
and_comm false false = refl

eqb_comm : (a b : ℕ) → eqb a b ≡ eqb b a
eqb_comm a b = go (ℕ_discrete a b)
  where
    go : Dec (a ≡ b) → eqb a b ≡ eqb b a
    go (yes e) = eq-eqb a b e ∙ sym (eq-eqb b a (sym e))
    go (no h) = ne_eqb a b h ∙ sym (ne_eqb b a (λ e. h (sym e)))

same_comm : (a b : ℤ) → eq_z a b ≡ eq_z b a
same_comm (pos a) (pos b) = eqb_comm a b
same_comm (pos a) (negsuc b) = refl
same_comm (negsuc a) (pos b) = refl
same_comm (negsuc a) (negsuc b) = eqb_comm a b

ends_reversed : (count : ℕ) (from to : ℤ) → ends_fit count to from ≡ ends_fit count from to
unfolding ends_fit
ends_reversed count from to = ap₂ (λ (a b : Bool). a && not b) (and_comm (in_list count to) (in_list count from)) (same_comm to from)

range_reversed : (d : CheckDistance) → distance_in_range (reversed d) ≡ distance_in_range d
unfolding distance_in_range
range_reversed d =
    ap (λ (h : Bool). h && (le_z (pos 1) d.distance && le_z d.distance (pos 1800000000)) && (le_z (pos 0) d.tolerance && le_z d.tolerance (pos 100000)) && lt_z d.tolerance d.distance)
    (and_comm (height_above_mark_fits d.target) (height_above_mark_fits d.instrument))

-- ════ every difference changes its sign, and no square does
squared-reversed : (d : CheckDistance) (from to : ℕ → ℤ) → squared_distance (reversed d) to from ≡ squared_distance d from to
unfolding squared_distance
squared-reversed d from to = ring (from 0 ∷ from 1 ∷ from 2 ∷ to 0 ∷ to 1 ∷ to 2 ∷ d.target ∷ d.instrument ∷ []) (search shapes depth 12) tt

pub agreement-reversed : (b : Book) (x m : List ℤ) (d : CheckDistance) → agreement b x m (reversed d) ≡ agreement b x m d
unfolding agreement unless_refused
agreement-reversed b x m d =
    rw (
      ends_reversed b.network.count d.from d.to,
      range_reversed d,
      squared-reversed d (mark b.network.stations x d.from) (mark b.network.stations x d.to),
    )
