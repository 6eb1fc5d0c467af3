-- `Unit::weight_of`: nothing is rounded off before the quotient, and beyond twice the deviation of weight 1 the quotient is 0. Assumes nothing.
use native.Mathlib.Omega.{arith}
use Prim.Native.Nat.{ℕ, ◌<◌}
use mathlib.Core.Path.{◌≡◌, sym, ap}
use lib.IntN.{pos}
use mir.Syntax.{w64}
use mir.Facts.{to_z_pos}
use Rattle.network.specs.Units.{weight_of, weight_beyond, Squared, squared}
use Rattle.network.proofs.unit.Unit.weight_of.Goals as goal

pub returns-then-deviation-eq0 : goal.returns-then-deviation-eq0
unfolding weight_of
returns-then-deviation-eq0 c = let e : 0 ≡ c.args.deviation = omega arith in ap (λ (n : ℕ). pos (weight_of n)) e

pub returns-then-deviation-one : goal.returns-then-deviation-one
returns-then-deviation-one c = let h : 2000 < c.args.deviation = omega arith in sym (ap pos (weight_beyond c.args.deviation h))

pub overflow_mul-square : goal.overflow_mul-square
overflow_mul-square c =
    let known : Squared c.args.deviation = squared c.args.deviation (omega arith) (omega arith) in
    omega (arith, known.small)

pub overflow_add-result : goal.overflow_add-result
overflow_add-result c =
    let known : Squared c.args.deviation = squared c.args.deviation (omega arith) (omega arith) in
    omega (arith, known.small)

pub overflow_mul-result-3 : goal.overflow_mul-result-3
overflow_mul-result-3 c =
    let known : Squared c.args.deviation = squared c.args.deviation (omega arith) (omega arith) in
    omega (arith, known.small)

pub nonzero_div-result : goal.nonzero_div-result
nonzero_div-result c =
    let known : Squared c.args.deviation = squared c.args.deviation (omega arith) (omega arith) in
    omega (arith, known.positive)

pub overflow_cast-result : goal.overflow_cast-result
overflow_cast-result c =
    let known : Squared c.args.deviation = squared c.args.deviation (omega arith) (omega arith) in
    omega (arith, known.weight)

pub returns : goal.returns
unfolding weight_of
returns c =
    let known : Squared c.args.deviation = squared c.args.deviation (omega arith) (omega arith) in
    to_z_pos w64 (omega (arith, known.weight))
