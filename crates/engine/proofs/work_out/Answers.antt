-- A pair that could not be worked out is not accepted; of one that was, `is_accepted` tells. Assumes nothing.
use Rattle.engine.proofs.work_out.Goals as goal

pub returns-then-not-work_alone : goal.returns-then-not-work_alone
returns-then-not-work_alone c = λ e. cc
