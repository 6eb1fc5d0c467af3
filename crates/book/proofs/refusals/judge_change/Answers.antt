-- By the change: of an enter what `judge_record` ensures, of a strike what `is_empty` told of the record. Assumes nothing.
use Rattle.std.proofs.Common.{sym, ◌∙◌}
use Rattle.std.proofs.lemmas.Result.{err_from_is_err_and}
use Rattle.book.specs.Calls.{empty_no}
use Rattle.book.specs.Numbers.{change_no_of}
use Rattle.book.proofs.refusals.judge_change.Goals as goal

pub returns-in_ok-judge_record-in-Enter : goal.returns-in_ok-judge_record-in-Enter
unfolding change_no_of
returns-in_ok-judge_record-in-Enter c = rw c.in-Enter.is c.in_ok-judge_record-in-Enter.ensures

pub returns-in_err-judge_record-in-Enter : goal.returns-in_err-judge_record-in-Enter
unfolding change_no_of
returns-in_err-judge_record-in-Enter c =
    let p = err_from_is_err_and c.from_residual.result c.from_residual.ensures.1 in
    rw (c.in-Enter.is, p.1, p.2) c.in_err-judge_record-in-Enter.ensures

pub returns-in-Strike : goal.returns-in-Strike
unfolding change_no_of empty_no
returns-in-Strike c = rw (c.in-Strike.is, sym c.is_empty.ensures ∙ c.if-is_empty.true)

pub returns-in-Strike-2 : goal.returns-in-Strike-2
unfolding change_no_of empty_no
returns-in-Strike-2 c = rw (c.in-Strike.is, sym c.is_empty.ensures ∙ c.if-is_empty.false)
