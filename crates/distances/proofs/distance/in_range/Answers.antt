-- Each value is read back from its bits, so each test is that of the definition, in its order. Assumes nothing.
use borrow.Author.Rules.{rules}
use mathlib.Core.Path.{◌≡◌, ap₂}
use mathlib.Core.Bool.{◌&&◌}
use lib.IntN.{ℤ, pos}
use lib.Signed.{le_z, lt_z}
use mir.Syntax.{w64}
use mir.ValLaws.{to_z-of_z}
use Rattle.network.specs.Rules.{height_above_mark_fits}
use Rattle.distances.specs.Distances.{distance_in_range}
use Rattle.distances.proofs.distance.in_range.Goals as goal

pub returns : goal.returns
unfolding distance_in_range
returns c =
    let d = c.args.d in
    let instrument-is : c.contains.result ≡ height_above_mark_fits d.instrument = search rules in
    let target_is : c.contains-2.result ≡ height_above_mark_fits d.target = search rules in
    let distance_is : c.contains-3.result ≡ (le_z (pos 1) d.distance && le_z d.distance (pos 1800000000)) = search rules in
    let tolerance-is : c.contains-4.result ≡ (le_z (pos 0) d.tolerance && le_z d.tolerance (pos 100000)) = search rules in
    let below-is = ap₂ (λ (a b : ℤ). lt_z a b) (to_z-of_z w64 d.tolerance (search rules)) (to_z-of_z w64 d.distance (search rules)) in
    ap₂ ◌&&◌
    (ap₂ ◌&&◌
    (ap₂ ◌&&◌ (ap₂ ◌&&◌ instrument-is target_is) distance_is)
    tolerance-is)
    below-is
