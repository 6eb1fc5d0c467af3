-- By its letter, one law of `Obeys` for each. Assumes nothing.
use Rattle.std.proofs.Common.{refl, sym, ap, ◌∙◌, ℕ, Option, arith}
use Rattle.std.specs.Option.{unwrap_or}
use Rattle.commands.specs.CommandLaws.{it_is, it_is_not, letter_some, letter_none, nothing_of, obeys_late, obeys_station, obeys-corrections, obeys-matrix, obeys-other}
use Rattle.commands.specs.declared.Command.{Command}
use Rattle.commands.specs.declared.Command.TheVariants.{Unreadable}
use Rattle.text.specs.Fields.{rest_fields}
use Rattle.commands.specs.Commands.{letter_R, letter_D, letter_U, entered, entry_of, other_of}
use Rattle.commands.proofs.reading.command_in.Goals as goal

pub returns-in_err-letter_at : goal.returns-in_err-letter_at
returns-in_err-letter_at c =
    let l = letter_none _ c.letter_at.ensures c.in_err-letter_at.was in
    obeys-other _ _ _ _ _ _ _ refl _ l (λ e. omega arith) (λ e. omega arith) (λ e. omega arith)
    (ap (λ (o : Option Command). unwrap_or o Unreadable) c.from_residual.ensures ∙ nothing_of _)

pub returns-then-unopened : goal.returns-then-unopened
returns-then-unopened c = let l = letter_some _ c.letter_at.ensures _ c.in_ok-letter_at.was in obeys_station _ _ _ _ _ _ _ refl _ l c.in-83.is c.if-unopened.true c.station_line.ensures

pub returns-else-unopened : goal.returns-else-unopened
returns-else-unopened c = let l = letter_some _ c.letter_at.ensures _ c.in_ok-letter_at.was in obeys_late _ _ _ _ _ _ _ refl _ l c.in-83.is c.if-unopened.false refl

pub returns-in-88 : goal.returns-in-88
returns-in-88 c = let l = letter_some _ c.letter_at.ensures _ c.in_ok-letter_at.was in obeys-corrections _ _ _ _ _ _ _ refl _ l _ c.in-88.is c.corrections_line.ensures.0 c.corrections_line.ensures.1

pub returns-in-77 : goal.returns-in-77
returns-in-77 c = let l = letter_some _ c.letter_at.ensures _ c.in_ok-letter_at.was in obeys-matrix _ _ _ _ _ _ _ refl _ l _ c.in-77.is c.matrix_line.ensures.0 c.matrix_line.ensures.1

pub returns-in-82 : goal.returns-in-82
unfolding other_of
returns-in-82 c = let l = letter_some _ c.letter_at.ensures _ c.in_ok-letter_at.was in obeys-other _ _ _ _ _ _ _ refl _ l (λ e. omega arith) (λ e. omega arith) (λ e. omega arith) (rw (it_is refl letter_R c.in-82.is) c.after_r.ensures)

pub returns-in-68 : goal.returns-in-68
unfolding other_of
returns-in-68 c =
    let l = letter_some _ c.letter_at.ensures _ c.in_ok-letter_at.was in
    obeys-other _ _ _ _ _ _ _ refl _ l (λ e. omega arith) (λ e. omega arith) (λ e. omega arith) (rw (it_is_not {letter = c.in_ok-letter_at.field-0} refl letter_R (λ e. omega arith), it_is refl letter_D c.in-68.is) c.strike_line.ensures)

pub returns-in-85 : goal.returns-in-85
unfolding other_of
returns-in-85 c =
    let l = letter_some _ c.letter_at.ensures _ c.in_ok-letter_at.was in
    obeys-other _ _ _ _ _ _ _ refl _ l (λ e. omega arith) (λ e. omega arith) (λ e. omega arith)
    (rw (it_is_not {letter = c.in_ok-letter_at.field-0} refl letter_R (λ e. omega arith), it_is_not {letter = c.in_ok-letter_at.field-0} refl letter_D (λ e. omega arith), it_is refl letter_U c.in-85.is) c.undo_line.ensures)

pub returns-in_default : goal.returns-in_default
unfolding other_of
returns-in_default c =
    let l = letter_some _ c.letter_at.ensures _ c.in_ok-letter_at.was in
    obeys-other _ _ _ _ _ _ _ refl _ l (λ e. omega arith) (λ e. omega arith) (λ e. omega arith)
    (rw (it_is_not {letter = c.in_ok-letter_at.field-0} refl letter_R (λ e. omega arith), it_is_not {letter = c.in_ok-letter_at.field-0} refl letter_D (λ e. omega arith), it_is_not {letter = c.in_ok-letter_at.field-0} refl letter_U (λ e. omega arith))
    (c.record_line.ensures ∙ ap (λ (n : ℕ). entered (entry_of n (rest_fields c.args.line.now))) (sym l)))
