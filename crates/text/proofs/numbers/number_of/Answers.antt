-- A field that starts with `-` is a negative (`number-minus`), any other a positive (`number-plus`). Assumes nothing.
use Rattle.std.proofs.Common.{◌≡◌, ◌-◌, get_or, length, take, drop, take_all, length-drop, arith, sym, ◌∙◌}
use Rattle.std.proofs.Math.ListN.{get_or-eq_default}
use borrow.Author.Tests.{ltb-true}
use Rattle.text.specs.Numbers.{minus_sign}
use Rattle.text.specs.Digits.{digits_of, number-minus, number-plus, within-minus, within-plus}
use Rattle.text.proofs.numbers.number_of.Goals as goal
use Rattle.text.proofs.numbers.number_of.Goals.{in_default-via-then-field-lt1, in_default-via-else-field-lt1+in_default-1}

pub returns-in_err-digits-in-45 : goal.returns-in_err-digits-in-45
returns-in_err-digits-in-45 c =
    let first : get_or c.args.field.now 0 0 ≡ minus_sign = omega arith in
    let all : take (length c.args.field.now - 1) (drop 1 c.args.field.now) ≡ drop 1 c.args.field.now = take_all _ _ (rw length-drop (omega arith)) in
    let read : c.digits.result ≡ digits_of (drop 1 c.args.field.now) = rw all at c.digits.ensures in
    c.from_residual.ensures ∙ number-minus _ _ first (sym c.in_err-digits-in-45.was ∙ read)

pub returns-in_err-digits-in_default : goal.returns-in_err-digits-in_default
returns-in_err-digits-in_default c =
    let first : get_or c.args.field.now 0 0 ≡ minus_sign → ⊥ =
    elim c.in_default.branch [ in_default-via-then-field-lt1 w ↦ λ e. omega (arith, get_or-eq_default c.args.field.now 0 {n = 0} (omega (arith, ltb-true))) | in_default-via-else-field-lt1+in_default-1 w ↦ λ e. omega arith ] in
    c.from_residual-in_err-digits-in_default.ensures ∙ number-plus _ _ first (sym c.in_err-digits-in_default.was ∙ c.digits-in_default.ensures)

pub returns-in_ok-digits-in-45 : goal.returns-in_ok-digits-in-45
returns-in_ok-digits-in-45 c =
    let first : get_or c.args.field.now 0 0 ≡ minus_sign = omega arith in
    let all : take (length c.args.field.now - 1) (drop 1 c.args.field.now) ≡ drop 1 c.args.field.now = take_all _ _ (rw length-drop (omega arith)) in
    let read : c.digits.result ≡ digits_of (drop 1 c.args.field.now) = rw all at c.digits.ensures in
    within-minus _ _ c.checked_sub_unsigned.ensures ∙ number-minus _ _ first (sym c.in_ok-digits-in-45.was ∙ read)

pub returns-in_ok-digits-in_default : goal.returns-in_ok-digits-in_default
returns-in_ok-digits-in_default c =
    let first : get_or c.args.field.now 0 0 ≡ minus_sign → ⊥ =
    elim c.in_default.branch [ in_default-via-then-field-lt1 w ↦ λ e. omega (arith, get_or-eq_default c.args.field.now 0 {n = 0} (omega (arith, ltb-true))) | in_default-via-else-field-lt1+in_default-1 w ↦ λ e. omega arith ] in
    c.ok.ensures.value ∙ within-plus _ _ c.try_from.ensures ∙ number-plus _ _ first (sym c.in_ok-digits-in_default.was ∙ c.digits-in_default.ensures)
