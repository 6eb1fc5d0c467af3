-- By the answer: a refusal's number is at most 16 (`refusal_most`), so the cast keeps it. Assumes nothing.
use Rattle.std.proofs.Common.{◌≡◌, ◌≤◌, sym, ap, ◌∙◌, arith, w64, to_z-of_z, pos}
use Rattle.acceptance.specs.JudgeLaws.{refusal_most}
use Rattle.lent_checks.specs.Offers.{proposal_word}
use Rattle.lent_checks.proofs.proposing.proposal_word.Goals as goal

pub overflow_cast-result : goal.overflow_cast-result
overflow_cast-result c = let small : c.from.result ≤ 16 = omega (arith, c.from.ensures, refusal_most c.in-Err.refusal) in record { sfits = omega arith }

pub returns-in-Err : goal.returns-in-Err
returns-in-Err c =
    let small : c.from.result ≤ 16 = omega (arith, c.from.ensures, refusal_most c.in-Err.refusal) in
    let number_is : pos c.from.result ≡ proposal_word c.args.answer = ap pos c.from.ensures ∙ ap proposal_word (sym c.in-Err.is) in
    to_z-of_z {w = w64} (record { sfits = omega arith }) ∙ number_is
