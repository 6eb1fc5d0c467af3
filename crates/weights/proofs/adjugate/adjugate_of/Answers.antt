-- The weights are small, so each minor is that of the weights (`minor_is`), read back from its bits; the determinant is what its call ensures. Assumes nothing.
use borrow.Author.Rules.{sfits_of}
use mathlib.Core.Path.{◌∙◌}
use mir.Syntax.{w64}
use mir.ValLaws.{to_z-of_z}
use Rattle.lists.specs.Stored.{kept}
use Rattle.weights.proofs.Minors.{minor_is}
use Rattle.weights.proofs.adjugate.adjugate_of.Goals as goal

pub minor-east-requires : goal.minor-east-requires
minor-east-requires c = let w = c.requires in (kept c.args.w.nn w.nn tt, kept c.args.w.uu w.uu tt, kept c.args.w.nu w.nu tt, kept c.args.w.nu w.nu tt)

pub minor-north-requires : goal.minor-north-requires
minor-north-requires c = let w = c.requires in (kept c.args.w.ee w.ee tt, kept c.args.w.uu w.uu tt, kept c.args.w.eu w.eu tt, kept c.args.w.eu w.eu tt)

pub minor-up-requires : goal.minor-up-requires
minor-up-requires c = let w = c.requires in (kept c.args.w.ee w.ee tt, kept c.args.w.nn w.nn tt, kept c.args.w.en w.en tt, kept c.args.w.en w.en tt)

pub returns : goal.returns
returns c =
    let w = c.requires in (
      to_z-of_z w64 c.minor-east.result (sfits_of c.minor-east.type_inv) ∙ minor_is c.args.w.nn c.args.w.uu c.args.w.nu c.args.w.nu _ c.minor-east.ensures w.nn w.uu w.nu w.nu,
      to_z-of_z w64 c.minor-north.result (sfits_of c.minor-north.type_inv) ∙ minor_is c.args.w.ee c.args.w.uu c.args.w.eu c.args.w.eu _ c.minor-north.ensures w.ee w.uu w.eu w.eu,
      to_z-of_z w64 c.minor-up.result (sfits_of c.minor-up.type_inv) ∙ minor_is c.args.w.ee c.args.w.nn c.args.w.en c.args.w.en _ c.minor-up.ensures w.ee w.nn w.en w.en,
      to_z-of_z w64 c.determinant_of-determinant.result (sfits_of c.determinant_of-determinant.type_inv) ∙ c.determinant_of-determinant.ensures,
    )
