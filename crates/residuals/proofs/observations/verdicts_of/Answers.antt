-- By the shape of the record: none, all three, or U alone; each word is what `verdict_at` ensures of the record's observation. Assumes nothing.
use borrow.Author.Rules.{sfits_of}
use mathlib.Core.Path.{refl, sym, ap₂, ◌∙◌}
use mathlib.Core.List.{◌∷◌}
use mir.Syntax.{w64}
use mir.ValLaws.{to_z-of_z}
use Rattle.residuals.specs.Observations.{observed-verdict, verdicts_none, verdicts_three, verdicts_up}
use Rattle.residuals.proofs.observations.verdicts_of.Goals as goal

pub returns-then-is_empty : goal.returns-then-is_empty
returns-then-is_empty c = verdicts_none c.args.c.number.now c.args.c.unknown.now c.args.c.m.now c.args.c.n c.args.r c.args.v (sym c.is_empty.ensures ∙ c.if-is_empty.true)

pub verdict_at-y-requires : goal.verdict_at-y-requires
verdict_at-y-requires c = c.observation_of-north.ensures.testable

pub returns-then-acts_in : goal.returns-then-acts_in
returns-then-acts_in c =
    ap₂ ◌∷◌ (to_z-of_z w64 c.verdict_at-x.result (sfits_of c.verdict_at-x.type_inv) ∙ c.verdict_at-x.ensures ∙ observed-verdict c.args.c.number.now c.args.c.unknown.now c.args.c.m.now c.args.c.n c.observation_of-east.ensures)
    (ap₂ ◌∷◌ (to_z-of_z w64 c.verdict_at-y.result (sfits_of c.verdict_at-y.type_inv) ∙ c.verdict_at-y.ensures ∙ observed-verdict c.args.c.number.now c.args.c.unknown.now c.args.c.m.now c.args.c.n c.observation_of-north.ensures)
    (ap₂ ◌∷◌ (to_z-of_z w64 c.verdict_at-z.result (sfits_of c.verdict_at-z.type_inv) ∙ c.verdict_at-z.ensures ∙ observed-verdict c.args.c.number.now c.args.c.unknown.now c.args.c.m.now c.args.c.n c.observation_of-up.ensures) refl))
    ∙ verdicts_three c.args.c.number.now c.args.c.unknown.now c.args.c.m.now c.args.c.n c.args.r c.args.v (sym c.acts_in.ensures ∙ c.if-acts_in.true)

pub returns : goal.returns
returns c =
    ap₂ ◌∷◌ refl (ap₂ ◌∷◌ refl (ap₂ ◌∷◌ (to_z-of_z w64 c.verdict_at-z.result (sfits_of c.verdict_at-z.type_inv) ∙ c.verdict_at-z.ensures ∙ observed-verdict c.args.c.number.now c.args.c.unknown.now c.args.c.m.now c.args.c.n c.observation_of-up.ensures) refl))
    ∙ verdicts_up c.args.c.number.now c.args.c.unknown.now c.args.c.m.now c.args.c.n c.args.r c.args.v (sym c.is_empty.ensures ∙ c.if-is_empty.false) (sym c.acts_in.ensures ∙ c.if-acts_in.false)
