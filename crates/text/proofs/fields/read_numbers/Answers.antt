-- The numbers are counted first: an unreadable field or too many store nothing (`stored-none`), else all are stored (`stored-all`). Assumes nothing.
use Rattle.std.proofs.Common.{refl, sym, ◌∙◌}
use Rattle.text.specs.Reading.{stored-none, stored-all}
use Rattle.text.proofs.fields.read_numbers.Goals as goal

pub returns-in_err-n : goal.returns-in_err-n
returns-in_err-n c = stored-none _ _ _ _ (c.from_residual.ensures ∙ sym c.in_err-n.was ∙ c.count_numbers.ensures) c.from_residual.ensures

pub returns : goal.returns
returns c = stored-all _ _ _ _ (sym c.in_ok-n.was ∙ c.count_numbers.ensures) _ _ refl c.requires c.fill_numbers.ensures
