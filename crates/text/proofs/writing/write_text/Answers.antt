-- The part from the position on holds the text (`text-put`). Assumes nothing.
use Rattle.std.proofs.Common.{arith}
use Rattle.text.proofs.Steps.{text-put}
use Rattle.text.proofs.writing.write_text.Goals as goal

pub returns : goal.returns
returns c = text-put _ _ _ _ _ c.requires (omega arith) c.copy_from_slice.ensures.after
