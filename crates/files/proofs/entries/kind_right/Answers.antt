-- `kind_right`, by the kind that the first word is. Assumes nothing.
use Rattle.std.proofs.Common.{◌≡◌, get_or, pos, List, ℤ, FitsSigned, Result, Ok, Err, ap, ◌∙◌, arith, to_z-of_z, w64, to_z, of_z, rules}
use Rattle.files.specs.declared.EntryKind.{EntryKind}
use Rattle.files.specs.declared.EntryKind.TheVariants.{Baseline, HeightDifference, Strike}
use Rattle.files.specs.declared.NoKind.{NoKind}
use Rattle.files.specs.Entries.{kind_right}
use Rattle.files.specs.Kinds.{kind_of}
use Rattle.files.proofs.Tests.{and_then, and_no, zeros_all, by_kind, by_kind_is}
use Rattle.files.proofs.entries.kind_right.Goals as goal

-- what the kind of the first word asks is what is asked
asked : (w : List ℤ) (r : Result EntryKind NoKind) → FitsSigned w64 (get_or w 0 (pos 0)) → r ≡ kind_of (to_z w64 (of_z w64 (get_or w 0 (pos 0)))) → by_kind r w ≡ kind_right w
asked w r f e = ap (λ (k : Result EntryKind NoKind). by_kind k w) (e ∙ ap kind_of (to_z-of_z {w = w64} {z = get_or w 0 (pos 0)} f)) ∙ by_kind_is w

pub returns-in-Ok-Baseline : goal.returns-in-Ok-Baseline
returns-in-Ok-Baseline c = asked c.args.w.now (Ok Baseline) (search rules) (rw c.in-Ok-Baseline.field-0-is at c.in-Ok-Baseline.ensures)

pub returns-then-zeros : goal.returns-then-zeros
returns-then-zeros c =
    and_then (c.zeros.ensures ∙ zeros_all c.args.w.now 4 2 (omega arith)) c.if-zeros.true (c.zeros-then-zeros.ensures ∙ zeros_all c.args.w.now 7 5 (omega arith))
    ∙ asked c.args.w.now (Ok HeightDifference) (search rules) (rw c.in-Ok-HeightDifference.field-0-is at c.in-Ok-HeightDifference.ensures)

pub returns-else-zeros : goal.returns-else-zeros
returns-else-zeros c =
    and_no _ (c.zeros.ensures ∙ zeros_all c.args.w.now 4 2 (omega arith)) c.if-zeros.false
    ∙ asked c.args.w.now (Ok HeightDifference) (search rules) (rw c.in-Ok-HeightDifference.field-0-is at c.in-Ok-HeightDifference.ensures)

pub returns-in-Ok-Strike : goal.returns-in-Ok-Strike
returns-in-Ok-Strike c =
    c.zeros-in-Ok-Strike.ensures ∙ zeros_all c.args.w.now 2 11 (omega arith)
    ∙ asked c.args.w.now (Ok Strike) (search rules) (rw c.in-Ok-Strike.field-0-is at c.in-Ok-Strike.ensures)

pub returns-in-Err : goal.returns-in-Err
returns-in-Err c = asked c.args.w.now (Err c.in-Err.field-0) (search rules) c.in-Err.ensures
