-- Field by field what `replay` ensures, less what that says of the book, which is not returned. Assumes nothing.
use Rattle.std.proofs.Common.{◌∙◌}
use Rattle.bench_kernels.proofs.bench_replay.Goals as goal

pub returns-in-Ok : goal.returns-in-Ok
returns-in-Ok c =
    let r = rw c.in-Ok.is at c.replay.ensures in
    record { refusal = r.refusal; answered = λ t. (r.demand t).answered; beyond = r.beyond; unopened = λ f. (r.unopened f).1 }

pub returns-in-Err : goal.returns-in-Err
returns-in-Err c =
    let r = rw c.in-Err.is at c.replay.ensures in
    record { refusal = c.from.ensures ∙ r.refusal; answered = λ t. (r.demand t).answered; beyond = r.beyond; unopened = λ f. (r.unopened f).1 }
