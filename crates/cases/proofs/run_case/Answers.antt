-- The calls and the check are those of the case, and the case holds. Assumes nothing.
use Prim.Native.Nat.{◌<◌}
use mathlib.Core.Path.{◌≡◌, ap, ◌∙◌}
use mathlib.Core.List.{[], ◌∷◌}
use native.Mathlib.Omega.{arith}
use borrow.Author.Rules.{rules}
use lib.ListN.{length, length-map}
use Rattle.std.specs.Prelude.{Some}
use mir.Syntax.{w64}
use mir.Facts.{to_z-of_z}
use lib.IntN.{ℤ}
use Rattle.cases.specs.Cases.{case_at}
use Rattle.cases.proofs.CasesHold.{cases_hold}
use Rattle.cases.specs.Script.{call_at, rows_named, table-length, rows_few}
use Rattle.cases.proofs.Runs.{ran}
use Rattle.cases.proofs.run_case.Goals as goal

pub make_calls-requires : goal.make_calls-requires
make_calls-requires c =
    let inside : c.args.k < 14 = omega (arith, table-length) in
    let numbers = c.run_at-run.result.calls.now in
    let long : length (rows_named numbers) ≡ length numbers = length-map numbers (λ n. Some (call_at n)) in
    let same = ap length c.run_at-run.ensures.rows in
    (c.opened-book.ensures.1, omega (arith, long, same, rows_few c.args.k inside))

pub check_sheet-requires : goal.check_sheet-requires
check_sheet-requires c = c.make_calls.ensures.sound

pub returns : goal.returns
returns c =
    let k = c.args.k in
    let run = c.run_at-run in
    ran (case_at k) (cases_hold k c.requires.0) c.opened-book.result _ c.args.answers.now _ c.make_calls.new.book c.make_calls.ensures
    c.opened-book.ensures.0
    run.ensures.rows
    _
    _
    c.args.sheet.now
    _
    _
    (ap (λ (z : ℤ). z ∷ []) (to_z-of_z {w = w64} {z = run.result.x} (search rules) ∙ run.ensures.x))
    (ap (λ (z : ℤ). z ∷ []) (to_z-of_z {w = w64} {z = run.result.m} (search rules) ∙ run.ensures.m))
    c.requires.2
    c.check_sheet.ensures.answer
    c.check_sheet.ensures.words
