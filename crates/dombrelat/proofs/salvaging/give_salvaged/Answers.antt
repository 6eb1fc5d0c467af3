-- By what the salvage answered: two words, or the refusal's number. Assumes nothing.
use Rattle.std.proofs.Common.{refl, ◌∙◌, to_z-of_z, w64}
use borrow.Author.Rules.{sfits_of}
use Rattle.dombrelat.proofs.salvaging.give_salvaged.Goals as goal

pub returns-in-Ok : goal.returns-in-Ok
returns-in-Ok c = rw c.in-Ok.is (to_z-of_z {w = w64} {z = c.put_salvage_counts.result} (sfits_of c.put_salvage_counts.type_inv) ∙ c.put_salvage_counts.ensures.0, c.put_salvage_counts.ensures.1)

pub returns-in-Err : goal.returns-in-Err
returns-in-Err c = rw c.in-Err.is (to_z-of_z {w = w64} {z = c.from.result} (sfits_of c.from.type_inv) ∙ c.from.ensures, refl)
