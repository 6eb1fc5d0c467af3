-- By the engine's answer: no proposal is told, and a pair that was made is one that the check accepts, so that its check prints its sheet (`accepted-says`). Assumes nothing.
use Rattle.std.specs.Prelude.{Ok}
use mathlib.Core.Path.{◌≡◌, subst}
use mathlib.Core.Bool.{true}
use native.Mathlib.Omega.{arith}
use Rattle.checks.specs.Checks.{checked}
use Rattle.engine.specs.declared.Proposal.{Proposal}
use Rattle.engine.specs.Proposals.{Proposed}
use Rattle.layout.specs.Bytes.{book_of}
use Rattle.text.specs.Writing.{written_as}
use Rattle.printing.specs.Reports.{none, pair, no_pair, accepted, offer_says}
use Rattle.printing.specs.ReportLaws.{accepted-says}
use Rattle.printing.proofs.proposing.report_proposal.Goals as goal

pub returns-in-Nothing : goal.returns-in-Nothing
unfolding offer_says
returns-in-Nothing c = record { offer = none; offers = no_pair; written = c.write_no_proposal.ensures; small = omega (arith, c.write_no_proposal.ensures.past) }

pub returns-in-Made : goal.returns-in-Made
returns-in-Made c =
    let b = book_of c.args.s.now in
    let p = c.propose_in in
    let x = p.new.x in
    let m = p.new.m in
    let e : checked b x m true ≡ Ok tt = subst (λ (r : Proposal). Proposed r (checked b x m true) c.args.x.now c.args.m.now x m) c.in-Made.is p.ensures.proposed in
    record { offer = pair x m; offers = accepted e; written = written_as (accepted-says b x m e) c.write_check.ensures.written; small = c.write_check.ensures.upper_bound }
