-- By the case. Assumes nothing.
use Rattle.std.proofs.Common.{◌∙◌, to_z-of_z, w64}
use borrow.Author.Rules.{sfits_of}
use Rattle.dombrelat.proofs.filing.entered_word.Goals as goal

pub returns-in-Ok : goal.returns-in-Ok
returns-in-Ok c = rw c.in-Ok.is

pub returns-in-Err : goal.returns-in-Err
returns-in-Err c = to_z-of_z {w = w64} {z = c.from.result} (sfits_of c.from.type_inv) ∙ rw c.in-Err.is c.from.ensures
