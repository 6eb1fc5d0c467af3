-- By the verdict. Assumes nothing.
use Rattle.residuals.specs.Verdicts.{verdict_word}
use Rattle.residuals.proofs.verdicts.I64FromVerdict.from.Goals as goal

pub returns-in-Pass : goal.returns-in-Pass
unfolding verdict_word
returns-in-Pass c = rw c.in-Pass.is

pub returns-in-Fail : goal.returns-in-Fail
unfolding verdict_word
returns-in-Fail c = rw c.in-Fail.is

pub returns-in-Loose : goal.returns-in-Loose
unfolding verdict_word
returns-in-Loose c = rw c.in-Loose.is

pub returns-in-Low : goal.returns-in-Low
unfolding verdict_word
returns-in-Low c = rw c.in-Low.is

pub returns-in-High : goal.returns-in-High
unfolding verdict_word
returns-in-High c = rw c.in-High.is

pub returns-in-NoVerdict : goal.returns-in-NoVerdict
unfolding verdict_word
returns-in-NoVerdict c = rw c.in-NoVerdict.is
