-- By the case; a length is small. Assumes nothing.
use Rattle.std.proofs.Common.{pos, FitsSigned, ◌∙◌, arith, to_z-of_z, w64}
use borrow.Author.Rules.{sfits_of}
use Rattle.dombrelat.proofs.filing.written_word.Goals as goal

pub overflow_cast-result : goal.overflow_cast-result
overflow_cast-result c =
    let long : FitsSigned w64 (pos c.in-Ok.n) = let h = rw c.in-Ok.is at c.requires in record { sfits = omega arith } in
    long

pub returns-in-Ok : goal.returns-in-Ok
returns-in-Ok c =
    let long : FitsSigned w64 (pos c.in-Ok.n) = let h = rw c.in-Ok.is at c.requires in record { sfits = omega arith } in
    to_z-of_z {w = w64} long ∙ rw c.in-Ok.is

pub returns-in-Err : goal.returns-in-Err
returns-in-Err c = to_z-of_z {w = w64} {z = c.from.result} (sfits_of c.from.type_inv) ∙ rw c.in-Err.is c.from.ensures
