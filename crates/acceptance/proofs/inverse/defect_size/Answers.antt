-- `defect_size` takes the product off S on the diagonal, off 0 elsewhere. Assumes nothing.
use Prim.Native.Nat.{◌≤◌, ◌*◌, ◌^◌}
use mathlib.Core.Path.{◌≡◌, refl, sym, ap, ◌∙◌}
use native.Mathlib.Omega.{arith}
use borrow.Author.Tests.{eq-eqb, ne_eqb}
use lib.IntN.{pos, nat_abs, ◌-ℤ◌}
use Rattle.integers.specs.Bounds.{abs_neg}
use Rattle.acceptance.specs.Loops.{pair-factors, pair_dot, dot_small, Difference, difference, read_back}
use Rattle.acceptance.proofs.inverse.defect_size.Goals as goal

pub dot-d-requires : goal.dot-d-requires
dot-d-requires c = pair-factors c.requires.defect_range _ c.args.i c.args.j refl c.requires.inside.0 c.requires.inside.1

pub overflow_sub-d : goal.overflow_sub-d
overflow_sub-d c =
    let small : nat_abs c.dot-d.result ≤ 48 * 2 ^ 57 = rw c.dot-d.ensures (dot_small (pair-factors c.requires.defect_range _ c.args.i c.args.j refl c.requires.inside.0 c.requires.inside.1)) in
    let one : Difference (pos 1073741824) c.dot-d.result = difference (pos 1073741824) c.dot-d.result (omega (arith, small)) in
    one.fits

pub returns-then-i-j : goal.returns-then-i-j
returns-then-i-j c =
    let small : nat_abs c.dot-d.result ≤ 48 * 2 ^ 57 = rw c.dot-d.ensures (dot_small (pair-factors c.requires.defect_range _ c.args.i c.args.j refl c.requires.inside.0 c.requires.inside.1)) in
    let one : Difference (pos 1073741824) c.dot-d.result = difference (pos 1073741824) c.dot-d.result (omega (arith, small)) in
    let e = c.unsigned_abs.ensures.value ∙ ap nat_abs one.is in
    let b = one.small in record { value = rw (eq-eqb _ _ c.if-i-j.true, ← (pair_dot c.args.n c.args.m.now c.args.normal.now (c.args.i * c.args.n) c.args.i c.args.j refl), ← c.dot-d.ensures) e; small = omega (arith, small) }

pub returns : goal.returns
returns c =
    let small : nat_abs c.dot-d.result ≤ 48 * 2 ^ 57 = rw c.dot-d.ensures (dot_small (pair-factors c.requires.defect_range _ c.args.i c.args.j refl c.requires.inside.0 c.requires.inside.1)) in
    let none_lem : nat_abs (pos 0 -ℤ c.dot-d.result) ≡ nat_abs c.dot-d.result = grind (arith, abs_neg) in
    let e = c.unsigned_abs-2.ensures.value ∙ (ap nat_abs (read_back c.dot-d.result (omega (arith, small))) ∙ sym none_lem) in
    record { value = rw (ne_eqb _ _ c.if-i-j.false, ← (pair_dot c.args.n c.args.m.now c.args.normal.now (c.args.i * c.args.n) c.args.i c.args.j refl), ← c.dot-d.ensures) e; small = omega (arith, small, e, none_lem) }
