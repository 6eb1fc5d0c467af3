-- `is_record`, by whether the record is empty. Assumes nothing.
use Rattle.std.proofs.Common.{◌≡◌, refl, ap, ◌∙◌, Bool, true, false}
use mir.Val.{bool_byte}
use Rattle.std.specs.Prelude.{cond, not}
use Rattle.residuals.specs.Residuals.{is_record}
use Rattle.sheet.proofs.totals.is_record.Goals as goal

counted : (empty : Bool) → bool_byte (not empty) ≡ cond empty 0 1
counted true = refl
counted false = refl

pub returns : goal.returns
unfolding is_record
returns c = c.from.ensures ∙ counted _ ∙ ap (λ (empty : Bool). cond empty 0 1) c.is_empty.ensures
