-- A refusal's number is at most 8 (`refusal-most`), so the cast keeps it. Assumes nothing.
use Rattle.std.proofs.Common.{◌<◌, ◌^◌, pos, ap, ◌∙◌, arith, w64, to_z-of_z}
use Rattle.book.specs.Refusals.{refusal-most}
use Rattle.book.proofs.refusals.call_word.Goals as goal

pub overflow_cast-result : goal.overflow_cast-result
overflow_cast-result c = record { sfits = omega (arith, c.from.ensures, refusal-most c.in-Err.refusal) }

pub returns-in-Ok : goal.returns-in-Ok
returns-in-Ok c = rw c.in-Ok.is

pub returns-in-Err : goal.returns-in-Err
returns-in-Err c =
    let small : c.from.result < 2 ^ 63 = omega (arith, c.from.ensures, refusal-most c.in-Err.refusal) in
    to_z-of_z {w = w64} {z = pos c.from.result} (record { sfits = small }) ∙ ap pos c.from.ensures ∙ rw c.in-Err.is
