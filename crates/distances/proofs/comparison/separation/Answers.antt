-- Both adjusted coordinates are small (`a_small`, `b-small`), so their difference fits and is at most the sum of their sizes. Assumes nothing.
use Prim.Native.Nat.{◌+◌, ◌*◌, ◌≤◌}
use mathlib.Core.Path.{◌≡◌, sym, ap₂, ◌∙◌, subst}
use mathlib.Core.List.{[], ◌∷◌}
use native.Mathlib.Omega.{arith}
use lib.ListN.{get_or}
use lib.IntN.{ℤ, pos, nat_abs, ◌+ℤ◌, ◌-ℤ◌}
use Rattle.lists.specs.Stored.{stored}
use Rattle.integers.specs.Bounds.{bounds, absle}
use Rattle.integers.specs.Code.{fit, code_bounds, ringm, code_shapes}
use Rattle.distances.specs.Coordinates.{separation_in}
use Rattle.distances.proofs.comparison.separation.Goals as goal

pub overflow_sub-result : goal.overflow_sub-result
overflow_sub-result c =
    let a_small : nat_abs c.adjusted-a.result ≤ 500100000 = let q = c.args.t * 3 + c.args.c in
    let x = c.requires.3.bound q in
    let y = c.requires.4.bound q in
    subst (λ (z : ℤ). nat_abs z ≤ 500100000) (sym c.adjusted-a.ensures) (absle (get_or c.args.coordinate.now q (pos 0) +ℤ get_or c.args.correction.now q (pos 0)) (search bounds) (omega arith)) in
    let b-small : nat_abs c.adjusted-b.result ≤ 500100000 = let q = c.args.f * 3 + c.args.c in
    let x = c.requires.3.bound q in
    let y = c.requires.4.bound q in
    subst (λ (z : ℤ). nat_abs z ≤ 500100000) (sym c.adjusted-b.ensures) (absle (get_or c.args.coordinate.now q (pos 0) +ℤ get_or c.args.correction.now q (pos 0)) (search bounds) (omega arith)) in
    let x = a_small in let y = b-small in fit (search code_bounds depth 12) tt

pub returns : goal.returns
unfolding separation_in
returns c =
    let a_small : nat_abs c.adjusted-a.result ≤ 500100000 = let q = c.args.t * 3 + c.args.c in
    let x = c.requires.3.bound q in
    let y = c.requires.4.bound q in
    subst (λ (z : ℤ). nat_abs z ≤ 500100000) (sym c.adjusted-a.ensures) (absle (get_or c.args.coordinate.now q (pos 0) +ℤ get_or c.args.correction.now q (pos 0)) (search bounds) (omega arith)) in
    let b-small : nat_abs c.adjusted-b.result ≤ 500100000 = let q = c.args.f * 3 + c.args.c in
    let x = c.requires.3.bound q in
    let y = c.requires.4.bound q in
    subst (λ (z : ℤ). nat_abs z ≤ 500100000) (sym c.adjusted-b.ensures) (absle (get_or c.args.coordinate.now q (pos 0) +ℤ get_or c.args.correction.now q (pos 0)) (search bounds) (omega arith)) in
    let separation-is : stored (stored c.adjusted-a.result -ℤ stored c.adjusted-b.result) ≡ c.adjusted-a.result -ℤ c.adjusted-b.result = let x = a_small in let y = b-small in ringm (c.adjusted-a.result ∷ c.adjusted-b.result ∷ []) (search code_shapes depth 12) tt in
    let x = a_small in let y = b-small in
    let d = separation-is in (
      d ∙ ap₂ ◌-ℤ◌ c.adjusted-a.ensures c.adjusted-b.ensures,
      subst (λ (z : ℤ). nat_abs z ≤ 1000200000) (sym d) (absle (c.adjusted-a.result -ℤ c.adjusted-b.result) (search bounds) (omega arith)),
    )
