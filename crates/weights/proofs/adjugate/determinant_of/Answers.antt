-- The three minors are those of the weights (`minor_is`) and small (`minor_size`), so products and sums fit; `determinant-is` joins them. Assumes nothing.
use Prim.Native.Nat.{◌≤◌}
use mathlib.Core.Path.{◌≡◌}
use lib.IntN.{nat_abs, ◌-ℤ◌, ◌*ℤ◌}
use Rattle.integers.specs.Code.{fit, code_bounds}
use Rattle.lists.specs.Stored.{kept}
use Rattle.weights.proofs.Minors.{minor_is, minor_size, determinant-is}
use Rattle.weights.proofs.adjugate.determinant_of.Goals as goal

pub minor-x-requires : goal.minor-x-requires
minor-x-requires c =
    let p = c.requires in
    let w = c.args.w in
    (kept w.nn p.nn tt, kept w.uu p.uu tt, kept w.nu p.nu tt, kept w.nu p.nu tt)

pub minor-y-requires : goal.minor-y-requires
minor-y-requires c =
    let p = c.requires in
    let w = c.args.w in
    (kept w.en p.en tt, kept w.uu p.uu tt, kept w.nu p.nu tt, kept w.eu p.eu tt)

pub minor-z-requires : goal.minor-z-requires
minor-z-requires c =
    let p = c.requires in
    let w = c.args.w in
    (kept w.en p.en tt, kept w.nu p.nu tt, kept w.nn p.nn tt, kept w.eu p.eu tt)

pub overflow_mul-e : goal.overflow_mul-e
overflow_mul-e c =
    let minors-small : (nat_abs c.minor-x.result ≤ 200000000)
    × (nat_abs c.minor-y.result ≤ 200000000)
    × (nat_abs c.minor-z.result ≤ 200000000) = (
      minor_size c.args.w.nn c.args.w.uu c.args.w.nu c.args.w.nu _ c.minor-x.ensures c.requires.nn c.requires.uu c.requires.nu c.requires.nu,
      minor_size c.args.w.en c.args.w.uu c.args.w.nu c.args.w.eu _ c.minor-y.ensures c.requires.en c.requires.uu c.requires.nu c.requires.eu,
      minor_size c.args.w.en c.args.w.nu c.args.w.nn c.args.w.eu _ c.minor-z.ensures c.requires.en c.requires.nu c.requires.nn c.requires.eu,
    ) in
    let p = c.requires in
    let k = minors-small in
    fit (search code_bounds depth 12) tt

pub overflow_mul-n : goal.overflow_mul-n
overflow_mul-n c =
    let minors-small : (nat_abs c.minor-x.result ≤ 200000000)
    × (nat_abs c.minor-y.result ≤ 200000000)
    × (nat_abs c.minor-z.result ≤ 200000000) = (
      minor_size c.args.w.nn c.args.w.uu c.args.w.nu c.args.w.nu _ c.minor-x.ensures c.requires.nn c.requires.uu c.requires.nu c.requires.nu,
      minor_size c.args.w.en c.args.w.uu c.args.w.nu c.args.w.eu _ c.minor-y.ensures c.requires.en c.requires.uu c.requires.nu c.requires.eu,
      minor_size c.args.w.en c.args.w.nu c.args.w.nn c.args.w.eu _ c.minor-z.ensures c.requires.en c.requires.nu c.requires.nn c.requires.eu,
    ) in
    let p = c.requires in
    let k = minors-small in
    fit (search code_bounds depth 12) tt

pub overflow_mul-u : goal.overflow_mul-u
overflow_mul-u c =
    let minors-small : (nat_abs c.minor-x.result ≤ 200000000)
    × (nat_abs c.minor-y.result ≤ 200000000)
    × (nat_abs c.minor-z.result ≤ 200000000) = (
      minor_size c.args.w.nn c.args.w.uu c.args.w.nu c.args.w.nu _ c.minor-x.ensures c.requires.nn c.requires.uu c.requires.nu c.requires.nu,
      minor_size c.args.w.en c.args.w.uu c.args.w.nu c.args.w.eu _ c.minor-y.ensures c.requires.en c.requires.uu c.requires.nu c.requires.eu,
      minor_size c.args.w.en c.args.w.nu c.args.w.nn c.args.w.eu _ c.minor-z.ensures c.requires.en c.requires.nu c.requires.nn c.requires.eu,
    ) in
    let p = c.requires in
    let k = minors-small in
    fit (search code_bounds depth 12) tt

pub overflow_sub-result : goal.overflow_sub-result
overflow_sub-result c =
    let minors-small : (nat_abs c.minor-x.result ≤ 200000000)
    × (nat_abs c.minor-y.result ≤ 200000000)
    × (nat_abs c.minor-z.result ≤ 200000000) = (
      minor_size c.args.w.nn c.args.w.uu c.args.w.nu c.args.w.nu _ c.minor-x.ensures c.requires.nn c.requires.uu c.requires.nu c.requires.nu,
      minor_size c.args.w.en c.args.w.uu c.args.w.nu c.args.w.eu _ c.minor-y.ensures c.requires.en c.requires.uu c.requires.nu c.requires.eu,
      minor_size c.args.w.en c.args.w.nu c.args.w.nn c.args.w.eu _ c.minor-z.ensures c.requires.en c.requires.nu c.requires.nn c.requires.eu,
    ) in
    let p = c.requires in
    let k = minors-small in
    fit (search code_bounds depth 12) tt

pub overflow_add-result : goal.overflow_add-result
overflow_add-result c =
    let minors-small : (nat_abs c.minor-x.result ≤ 200000000)
    × (nat_abs c.minor-y.result ≤ 200000000)
    × (nat_abs c.minor-z.result ≤ 200000000) = (
      minor_size c.args.w.nn c.args.w.uu c.args.w.nu c.args.w.nu _ c.minor-x.ensures c.requires.nn c.requires.uu c.requires.nu c.requires.nu,
      minor_size c.args.w.en c.args.w.uu c.args.w.nu c.args.w.eu _ c.minor-y.ensures c.requires.en c.requires.uu c.requires.nu c.requires.eu,
      minor_size c.args.w.en c.args.w.nu c.args.w.nn c.args.w.eu _ c.minor-z.ensures c.requires.en c.requires.nu c.requires.nn c.requires.eu,
    ) in
    let p = c.requires in
    let k = minors-small in
    fit (search code_bounds depth 12) tt

pub returns : goal.returns
returns c =
    let x_is : c.minor-x.result ≡ c.args.w.nn *ℤ c.args.w.uu -ℤ c.args.w.nu *ℤ c.args.w.nu = minor_is c.args.w.nn c.args.w.uu c.args.w.nu c.args.w.nu _ c.minor-x.ensures c.requires.nn c.requires.uu c.requires.nu c.requires.nu in
    let y-is : c.minor-y.result ≡ c.args.w.en *ℤ c.args.w.uu -ℤ c.args.w.nu *ℤ c.args.w.eu = minor_is c.args.w.en c.args.w.uu c.args.w.nu c.args.w.eu _ c.minor-y.ensures c.requires.en c.requires.uu c.requires.nu c.requires.eu in
    let z-is : c.minor-z.result ≡ c.args.w.en *ℤ c.args.w.nu -ℤ c.args.w.nn *ℤ c.args.w.eu = minor_is c.args.w.en c.args.w.nu c.args.w.nn c.args.w.eu _ c.minor-z.ensures c.requires.en c.requires.nu c.requires.nn c.requires.eu in
    let minors-small : (nat_abs c.minor-x.result ≤ 200000000)
    × (nat_abs c.minor-y.result ≤ 200000000)
    × (nat_abs c.minor-z.result ≤ 200000000) = (
      minor_size c.args.w.nn c.args.w.uu c.args.w.nu c.args.w.nu _ c.minor-x.ensures c.requires.nn c.requires.uu c.requires.nu c.requires.nu,
      minor_size c.args.w.en c.args.w.uu c.args.w.nu c.args.w.eu _ c.minor-y.ensures c.requires.en c.requires.uu c.requires.nu c.requires.eu,
      minor_size c.args.w.en c.args.w.nu c.args.w.nn c.args.w.eu _ c.minor-z.ensures c.requires.en c.requires.nu c.requires.nn c.requires.eu,
    ) in
    let p = c.requires in
    let k = minors-small in
    let w = c.args.w in
    determinant-is w.ee w.en w.eu c.minor-x.result c.minor-y.result c.minor-z.result p.ee p.en p.eu k.0 k.1 k.2
    x_is y-is z-is
