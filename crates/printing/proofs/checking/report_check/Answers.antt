-- By the answer: the words left are the sheet's (`says_sheet`), or the refusal is printed (`says-refused`). Assumes nothing.
use Rattle.layout.specs.Bytes.{book_of}
use Rattle.text.specs.Writing.{written_as}
use Rattle.printing.specs.ReportLaws.{says_sheet, says-refused}
use Rattle.printing.proofs.checking.report_check.Goals as goal

pub returns-in-Ok : goal.returns-in-Ok
returns-in-Ok c =
    let a = c.args in let k = c.check_sheet_in-answer in
    record { written = written_as (says_sheet (book_of a.s.now) a.x.now a.m.now a.words.now c.requires.1 k.result k.ensures.answer _ c.in-Ok.is k.ensures.words) c.write_words.ensures.written; upper_bound = c.write_words.ensures.upper_bound }

pub returns-in-Err : goal.returns-in-Err
returns-in-Err c =
    let a = c.args in let k = c.check_sheet_in-answer in
    record { written = written_as (says-refused (book_of a.s.now) a.x.now a.m.now a.words.now c.requires.1 k.result k.ensures.answer _ c.in-Err.is) c.write_refusal.ensures.written; upper_bound = c.write_refusal.ensures.upper_bound }
