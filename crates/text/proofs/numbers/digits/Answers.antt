-- A byte that is no digit ends the loop (`digits_wrong`). Assumes nothing.
use Rattle.std.proofs.Common.{◌≡◌, ◌<◌, ◌≤◌, true, length, get_or, arith, sym, ◌∙◌}
use Rattle.std.proofs.lemmas.Grind.{common_steps}
use Rattle.text.specs.Numbers.{is_digit}
use Rattle.text.specs.Digits.{digits_more, digits_wrong, digits_end, digits-none, digits-start}
use Rattle.text.proofs.numbers.digits.Goals as goal

pub returns-then-is_empty : goal.returns-then-is_empty
returns-then-is_empty c = let none : length c.args.s.now ≤ 0 = grind (arith, common_steps) in digits-none c.args.s.now 0 none

pub loop-c-init : goal.loop-c-init
loop-c-init c = let some : 0 < length c.args.s.now = grind (arith, common_steps) in (digits-start c.args.s.now 0 some, omega arith)

pub returns-then-not-is_ascii_digit : goal.returns-then-not-is_ascii_digit
returns-then-not-is_ascii_digit c =
    digits_wrong _ _ _ c.loop-c-test.true (sym c.is_ascii_digit.ensures.value ∙ c.if-not-is_ascii_digit.true) ∙ c.loop-c.invariant.0

pub loop-c-preserved : goal.loop-c-preserved
loop-c-preserved c =
    let a_digit : is_digit (get_or c.args.s.now c.loop-c.c-index 0) ≡ true = sym c.is_ascii_digit.ensures.value ∙ c.if-not-is_ascii_digit.false in
    (digits_more _ _ _ _ c.grow-n.ensures c.loop-c-test.true a_digit ∙ c.loop-c.invariant.0, omega (arith, c.grow-n.ensures))

pub returns : goal.returns
returns c = digits_end _ _ _ (omega (arith, c.loop-c.invariant.1)) c.loop-c-test.false ∙ c.loop-c.invariant.0
