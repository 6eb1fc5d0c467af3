-- Minors and determinant are small, so each is read back from its bits and 16 times the determinant fits (`most_is`); each test is that of the definition. Assumes nothing.
use Prim.Native.Nat.{◌≤◌}
use mathlib.Core.Path.{◌≡◌, sym, ap, ap₂, ◌∙◌, subst}
use mathlib.Core.Bool.{◌&&◌}
use lib.IntN.{ℤ, pos, nat_abs, ◌*ℤ◌}
use lib.Signed.{le_z}
use Rattle.integers.specs.Code.{fit, code_bounds}
use Rattle.lists.specs.Stored.{stored, back}
use Rattle.weights.specs.Rules.{adjugate_e, adjugate_n, adjugate_u, determinant, adjugate_fits}
use Rattle.weights.specs.Ranges.{minor_small, determinant-small}
use Rattle.weights.proofs.Minors.{most_is}
use Rattle.weights.proofs.rules.adjugate_fits.Goals as goal

pub overflow_mul-most : goal.overflow_mul-most
overflow_mul-most c =
    let d = c.adjugate_of-a in
    let h : nat_abs d.result.determinant ≤ 6000000000000 = subst (λ (z : ℤ). nat_abs z ≤ 6000000000000) (sym d.ensures.3) (determinant-small c.args.w c.requires) in
    fit (search code_bounds depth 8) tt

pub returns : goal.returns
unfolding adjugate_fits
returns c =
    let east-is : stored c.adjugate_of-a.result.east ≡ adjugate_e c.args.w = let w = c.args.w in
    let p = c.requires in
    ap stored c.adjugate_of-a.ensures.0 ∙ back (adjugate_e w) (minor_small w.nn w.uu w.nu w.nu p.nn p.uu p.nu p.nu) tt in
    let north-is : stored c.adjugate_of-a.result.north ≡ adjugate_n c.args.w = let w = c.args.w in
    let p = c.requires in
    ap stored c.adjugate_of-a.ensures.1 ∙ back (adjugate_n w) (minor_small w.ee w.uu w.eu w.eu p.ee p.uu p.eu p.eu) tt in
    let up_is : stored c.adjugate_of-a.result.up ≡ adjugate_u c.args.w = let w = c.args.w in
    let p = c.requires in
    ap stored c.adjugate_of-a.ensures.2 ∙ back (adjugate_u w) (minor_small w.ee w.nn w.en w.en p.ee p.nn p.en p.en) tt in
    let most : stored (pos 16 *ℤ stored c.adjugate_of-a.result.determinant) ≡ pos 16 *ℤ determinant c.args.w = ap (λ (z : ℤ). stored (pos 16 *ℤ stored z)) c.adjugate_of-a.ensures.3
    ∙ most_is (determinant c.args.w) (determinant-small c.args.w c.requires) in
    let t = most in
    ap₂ ◌&&◌ (ap₂ ◌&&◌
    (ap₂ le_z east-is t)
    (ap₂ le_z north-is t))
    (ap₂ le_z up_is t)
