-- By how many components the record observes: three, one, or none and no line. Assumes nothing.
use borrow.Author.Rules.{rules}
use native.Mathlib.Omega.{arith}
use mathlib.Core.Path.{sym, ◌∙◌}
use Rattle.text.specs.Writing.{nothing, written_as}
use Rattle.printing.specs.SheetTextLaws.{a_baseline, a_height, no_line, words_observed}
use Rattle.printing.proofs.sheet_text.write_record.Goals as goal

pub write_baseline-requires : goal.write_baseline-requires
write_baseline-requires c =
    let e = words_observed c.args.r 3 (sym c.observations_of-observed.ensures ∙ c.if-observed-eq-BASELINE_COMPONENTS.true) (λ z. omega arith) in
    (omega (arith, e, c.requires.0), search rules)

pub returns-then-observed-eq-BASELINE_COMPONENTS : goal.returns-then-observed-eq-BASELINE_COMPONENTS
returns-then-observed-eq-BASELINE_COMPONENTS c = record { written = written_as (a_baseline c.args.w.now c.args.o c.args.r (sym c.observations_of-observed.ensures ∙ c.if-observed-eq-BASELINE_COMPONENTS.true)) c.write_baseline.ensures.written; upper_bound = c.write_baseline.ensures.upper_bound }

pub write_height-requires : goal.write_height-requires
write_height-requires c =
    let e = words_observed c.args.r 1 (sym c.observations_of-observed.ensures ∙ c.if-observed-eq-HEIGHT_COMPONENTS.true) (λ z. omega arith) in
    (omega (arith, e, c.requires.0), search rules)

pub returns-then-observed-eq-HEIGHT_COMPONENTS : goal.returns-then-observed-eq-HEIGHT_COMPONENTS
returns-then-observed-eq-HEIGHT_COMPONENTS c = record { written = written_as (a_height c.args.w.now c.args.o c.args.r (λ z. c.if-observed-eq-BASELINE_COMPONENTS.false (c.observations_of-observed.ensures ∙ z)) (sym c.observations_of-observed.ensures ∙ c.if-observed-eq-HEIGHT_COMPONENTS.true)) c.write_height.ensures.written; upper_bound = omega (arith, c.write_height.ensures.upper_bound) }

pub returns : goal.returns
returns c = record { written = written_as (no_line c.args.w.now c.args.o c.args.r (λ z. c.if-observed-eq-BASELINE_COMPONENTS.false (c.observations_of-observed.ensures ∙ z)) (λ z. c.if-observed-eq-HEIGHT_COMPONENTS.false (c.observations_of-observed.ensures ∙ z))) (nothing _ _); upper_bound = omega arith }
