-- By what was found: two words, or the refusal's number. Assumes nothing.
use Rattle.std.proofs.Common.{refl, ◌∙◌, to_z-of_z, w64}
use borrow.Author.Rules.{sfits_of}
use Rattle.dombrelat.proofs.filing.give_found.Goals as goal

pub returns-in-Ok-InNight : goal.returns-in-Ok-InNight
returns-in-Ok-InNight c =
    let f = rw c.in-Ok-InNight.is at c.in-Ok-InNight.field-0-is in
    rw (c.in-Ok-InNight.is, f) (to_z-of_z {w = w64} {z = c.put_found.result} (sfits_of c.put_found.type_inv) ∙ c.put_found.ensures.0, c.put_found.ensures.1)

pub returns-in-Ok-InDay : goal.returns-in-Ok-InDay
returns-in-Ok-InDay c =
    let f = rw c.in-Ok-InDay.is at c.in-Ok-InDay.field-0-is in
    rw (c.in-Ok-InDay.is, f)
    (to_z-of_z {w = w64} {z = c.put_found-in-Ok-InDay.result} (sfits_of c.put_found-in-Ok-InDay.type_inv) ∙ c.put_found-in-Ok-InDay.ensures.0, c.put_found-in-Ok-InDay.ensures.1)

pub returns-in-Err : goal.returns-in-Err
returns-in-Err c = rw c.in-Err.is (to_z-of_z {w = w64} {z = c.from.result} (sfits_of c.from.type_inv) ∙ c.from.ensures, refl)
