-- By the row: a call is answered as `apply` ensures (`call_answered`), a row that names none as `nameless_answered` says. The word is at most 8 (`answer-most`). Assumes nothing.
use Rattle.std.proofs.Common.{◌<◌, ◌^◌, pos, ap, ◌∙◌, arith, w64, to_z, of_z, to_z-of_z}
use Rattle.book.specs.Refusals.{answer_no, answer-most}
use Rattle.book.proofs.RowCases.{call_answered, nameless_answered}
use Rattle.book.proofs.rows.answer.Goals as goal

pub returns-in-Some : goal.returns-in-Some
returns-in-Some c =
    let n = answer_no c.apply.result in
    let small : n < 2 ^ 63 = omega (arith, answer-most c.apply.result) in
    rw c.in-Some.is (call_answered _ _ _ _ _ c.apply.ensures.outcome c.apply.ensures.sound (ap (λ z. to_z w64 (of_z w64 z)) c.call_word.ensures ∙ to_z-of_z {w = w64} {z = pos n} (record { sfits = small })))

pub returns-in-None : goal.returns-in-None
returns-in-None c = rw c.in-None.is (nameless_answered c.args.book.now c.requires)
