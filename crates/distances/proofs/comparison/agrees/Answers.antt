-- The ends are in the list and the values in range, so every step fits; over the tables the squared distance is that of the two marks (`squared_distance_in_lem`). Assumes nothing.
use borrow.Author.Rules.{rules, sfits_of}
use Prim.Native.Nat.{◌<◌, ◌≤◌}
use mathlib.Core.Path.{◌≡◌, sym, ap, ◌∙◌, subst}
use mathlib.Core.List.{[], ◌∷◌}
use native.Mathlib.Omega.{arith}
use lib.IntN.{ℤ, nat_abs, ◌-ℤ◌}
use mir.Syntax.{w64}
use mir.ValLaws.{to_z-of_z}
use Rattle.integers.specs.Bounds.{bounds, absle}
use Rattle.integers.specs.Tables.{Within}
use Rattle.integers.specs.Code.{fit, code_bounds, ringm, code_shapes}
use Rattle.words.specs.Signed.{index_in}
use Rattle.network.specs.RuleLaws.{sound-stations, network_few, from_in_list, to-in_list}
use Rattle.lists.specs.Stored.{stored, back, kept}
use Rattle.residuals.specs.Ranges.{some_unknowns, corrections_within}
use Rattle.distances.specs.Distances.{squared_distance, within_tolerance, mark}
use Rattle.distances.specs.DistanceLaws.{InRange, in_range_lem}
use Rattle.distances.specs.Coordinates.{squared_distance_in, squared_distance_in_lem}
use Rattle.distances.proofs.comparison.agrees.Goals as goal

-- the difference of the heights, as the code stores it
rise-is : (a b : ℤ) → nat_abs a ≤ 300000 → nat_abs b ≤ 300000 → stored (stored a -ℤ stored b) ≡ a -ℤ b
rise-is a b h k = ringm (a ∷ b ∷ []) (search code_shapes depth 12) tt

rise-small : (a b : ℤ) → nat_abs a ≤ 300000 → nat_abs b ≤ 300000 → nat_abs (stored (stored a -ℤ stored b)) ≤ 600000
rise-small a b h k = subst (λ (z : ℤ). nat_abs z ≤ 600000) (sym (rise-is a b h k)) (absle (a -ℤ b) (search bounds) (omega arith))

pub corrections_of-correction-requires : goal.corrections_of-correction-requires
corrections_of-correction-requires c = let m = c.requires.0 in (some_unknowns m, m.corrections)

pub overflow_sub-rise : goal.overflow_sub-rise
overflow_sub-rise c =
    let ranges : InRange c.args.d = in_range_lem c.args.d c.requires.2 in
    let r = ranges in
    let a = r.target in
    let b = r.instrument in
    fit (search code_bounds depth 12) tt

pub squared_distance-squared-requires : goal.squared_distance-squared-requires
squared_distance-squared-requires c =
    let from-inside : index_in c.args.d.from 32 < 32 = from_in_list c.args.net.count c.args.d.from c.args.d.to (network_few c.args.net c.requires.0.network) c.requires.1 in
    let to_inside : index_in c.args.d.to 32 < 32 = to-in_list c.args.net.count c.args.d.from c.args.d.to (network_few c.args.net c.requires.0.network) c.requires.1 in
    let ranges : InRange c.args.d = in_range_lem c.args.d c.requires.2 in
    let f-is : c.index_in-f.result ≡ index_in c.args.d.from 32 = c.index_in-f.ensures ∙ ap (λ (z : ℤ). index_in z 32) (to_z-of_z w64 c.args.d.from (search rules)) in
    let t-is : c.index_in-t.result ≡ index_in c.args.d.to 32 = c.index_in-t.ensures ∙ ap (λ (z : ℤ). index_in z 32) (to_z-of_z w64 c.args.d.to (search rules)) in
    let r = ranges in (
      subst (λ k. k < 32) (sym f-is) from-inside,
      subst (λ k. k < 32) (sym t-is) to_inside,
      rise-small c.args.d.target c.args.d.instrument r.target r.instrument,
      subst (λ l. Within 96 500000000 l) (sym c.coordinates_of-coordinate.ensures) (sound-stations c.args.net c.requires.0.network).provisional,
      subst (λ l. Within 96 100000 l) (sym c.corrections_of-correction.ensures) (corrections_within c.requires.0),
    )

pub within_tolerance-requires : goal.within_tolerance-requires
within_tolerance-requires c =
    let ranges : InRange c.args.d = in_range_lem c.args.d c.requires.2 in
    let d = c.args.d in
    let r = ranges in
    (kept d.distance r.distance tt, kept d.tolerance r.tolerance tt)

pub returns : goal.returns
returns c =
    let ranges : InRange c.args.d = in_range_lem c.args.d c.requires.2 in
    let from-inside : index_in c.args.d.from 32 < 32 = from_in_list c.args.net.count c.args.d.from c.args.d.to (network_few c.args.net c.requires.0.network) c.requires.1 in
    let to_inside : index_in c.args.d.to 32 < 32 = to-in_list c.args.net.count c.args.d.from c.args.d.to (network_few c.args.net c.requires.0.network) c.requires.1 in
    let f-is : c.index_in-f.result ≡ index_in c.args.d.from 32 = c.index_in-f.ensures ∙ ap (λ (z : ℤ). index_in z 32) (to_z-of_z w64 c.args.d.from (search rules)) in
    let t-is : c.index_in-t.result ≡ index_in c.args.d.to 32 = c.index_in-t.ensures ∙ ap (λ (z : ℤ). index_in z 32) (to_z-of_z w64 c.args.d.to (search rules)) in
    let squared-is : stored c.squared_distance-squared.result
    ≡ squared_distance c.args.d
    (mark c.args.net.stations c.args.x.now c.args.d.from)
    (mark c.args.net.stations c.args.x.now c.args.d.to) = let d = c.args.d in
    let r = ranges in
    to_z-of_z w64 c.squared_distance-squared.result (sfits_of c.squared_distance-squared.type_inv)
    ∙ c.squared_distance-squared.ensures
    ∙ (λ i. squared_distance_in (c.coordinates_of-coordinate.ensures i) (c.corrections_of-correction.ensures i) (f-is i) (t-is i) (rise-is d.target d.instrument r.target r.instrument i))
    ∙ squared_distance_in_lem c.args.net.stations c.args.x.now d from-inside to_inside in
    let d = c.args.d in
    let r = ranges in
    c.within_tolerance.ensures
    ∙ (λ i. within_tolerance (back d.distance r.distance tt i) (back d.tolerance r.tolerance tt i) (squared-is i))
