-- By the refusal: 11 has its unknown printed too (`untied_says`, `other_says`). Assumes nothing.
use Rattle.std.proofs.Common.{arith}
use Rattle.text.specs.Writing.{written_as}
use Rattle.printing.specs.ReportLaws.{untied_says, other_says}
use Rattle.printing.proofs.checking.write_refusal.Goals as goal

pub returns-in-Untied-clause-written : goal.returns-in-Untied-clause-written
returns-in-Untied-clause-written c = written_as (untied_says _ _ c.in-Untied.is) c.write_refused_unknown.ensures.written

pub returns-in_default : goal.returns-in_default
returns-in_default c =
    let w = c.write_refused.ensures in
    record { written = written_as (other_says _ _ c.from.ensures c.in_default.not-Untied) w.written; upper_bound = omega (arith, w.upper_bound) }
