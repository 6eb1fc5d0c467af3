-- What the tests of a check distance give: the sizes of its values, how large the number of an answer is, and the answer itself. Assumes nothing.
use Rattle.std.specs.Prelude.{◌≤◌, ◌≡◌, Bool, true, false, cond, ◌&&◌, [], ◌∷◌, pos, nat_abs, Ok, Err}
use Rattle.std.proofs.Common.{arith, lit≤}
use Rattle.std.specs.Int.Signed.{le_z, lt_z}
use Rattle.words.specs.SignedLaws.{between-size}
use Rattle.lists.specs.All.{each}
use Rattle.network.specs.Rules.{ends_fit, height_above_mark_fits}
use Rattle.network.specs.declared.Network.{Network}
use Rattle.acceptance.specs.JudgeLaws.{refusal-least, refusal_most}
use Rattle.acceptance.specs.Judge.{Answer}
use Rattle.distances.specs.Distances.{DistanceAnswer, distance_in_range, on_pair, unless_refused, distance_number, agreement_number}
use Rattle.distances.specs.declared.CheckDistance.{CheckDistance}
use Rattle.distances.specs.declared.DistanceRefusal.{DistanceRefusal}
use Rattle.distances.specs.declared.DistanceRefusal.TheVariants.{Ends, Range, Pair}
use Rattle.distances.specs.declared.Agreement.TheVariants.{Agrees, Disagrees}

-- ════ sizes
pub record InRange (d : CheckDistance) : Type 0 where
  pub instrument : nat_abs d.instrument ≤ 300000
  pub target : nat_abs d.target ≤ 300000
  pub distance : nat_abs d.distance ≤ 1800000000
  pub tolerance : nat_abs d.tolerance ≤ 100000

pub in_range_lem : (d : CheckDistance) → distance_in_range d ≡ true → InRange d
unfolding distance_in_range
in_range_lem d e =
    let t = each
    (height_above_mark_fits d.instrument ∷ height_above_mark_fits d.target
    ∷ (le_z (pos 1) d.distance && le_z d.distance (pos 1800000000))
    ∷ (le_z (pos 0) d.tolerance && le_z d.tolerance (pos 100000)) ∷ lt_z d.tolerance d.distance ∷ []) e in
    record {
      instrument = between-size 0 300000 d.instrument t.0;
      target = between-size 0 300000 d.target t.1.0;
      distance = between-size 1 1800000000 d.distance t.1.1.0;
      tolerance = between-size 0 100000 d.tolerance t.1.1.1.0;
    }

-- ════ numbers: that of a refusal is 3 to 17
pub distance_least : (r : DistanceRefusal) → 3 ≤ distance_number r
distance_least Ends = lit≤ tt
distance_least Range = lit≤ tt
distance_least (Pair r) = omega (arith, refusal-least r)

pub distance_most : (r : DistanceRefusal) → distance_number r ≤ 17
distance_most Ends = lit≤ tt
distance_most Range = lit≤ tt
distance_most (Pair r) = omega (arith, refusal_most r)

pub agreement_most : (a : DistanceAnswer) → nat_abs (agreement_number a) ≤ 17
agreement_most (Ok Agrees) = lit≤ tt
agreement_most (Ok Disagrees) = lit≤ tt
agreement_most (Err r) = distance_most r

-- ════ the answer by its tests
module _ (net : Network) (d : CheckDistance) where
  pub ends_refused : (next : DistanceAnswer) → ends_fit net.count d.from d.to ≡ false → Err Ends ≡ unless_refused net d next
  unfolding unless_refused
  ends_refused next e = rw e

  module _ (e : ends_fit net.count d.from d.to ≡ true) where
    pub range_refused : (next : DistanceAnswer) → distance_in_range d ≡ false → Err Range ≡ unless_refused net d next
    unfolding unless_refused
    range_refused next f = rw (e, f)

    pub not_refused : (next : DistanceAnswer) → distance_in_range d ≡ true → next ≡ unless_refused net d next
    unfolding unless_refused
    not_refused next f = rw (e, f)

    -- where the check accepts the pair, it is whether the distance agrees
    pub pair-answer : (a : Answer) (t : Bool) → a ≡ Ok tt → distance_in_range d ≡ true → unless_refused net d (on_pair a t) ≡ Ok (cond t Agrees Disagrees)
    unfolding unless_refused on_pair
    pair-answer a t p f = rw (e, f, p)
