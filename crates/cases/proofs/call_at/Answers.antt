-- Each arm gives the call that its number stands for. Assumes nothing.
use native.Mathlib.Omega.{arith}
use mathlib.Core.Path.{◌≡◌, sym, ap, ◌∙◌}
use Prim.Native.Nat.{zero-le}
use lib.ListN.{get_or-eq_default}
use lib.IntN.{ℤ, pos}
use Rattle.network.specs.declared.Record.{Record}
use Rattle.book.specs.declared.Change.TheVariants.{Enter}
use Rattle.book.specs.declared.Call.{Call}
use Rattle.book.specs.declared.Call.TheVariants.{Edit}
use Rattle.cases.specs.Script.{calls, call_at}
use Rattle.cases.proofs.Calls.{above}
use Rattle.cases.proofs.call_at.Goals as goal

entered : (p : ℤ) (c : Call) (r r' : Record) → c ≡ Edit p (Enter r) → r ≡ r' → c ≡ Edit p (Enter r')
entered p c r r' e f = e ∙ ap (λ (x : Record). Edit p (Enter x)) f

pub returns-in-0 : goal.returns-in-0
unfolding calls
returns-in-0 c = entered (pos 1) _ _ _ c.enter.ensures c.level.ensures ∙ ap call_at (sym c.in-0.is)

pub returns-in-1 : goal.returns-in-1
unfolding calls
returns-in-1 c = entered (pos 2) _ _ _ c.enter-in-1.ensures c.level-in-1.ensures ∙ ap call_at (sym c.in-1.is)

pub returns-in-2 : goal.returns-in-2
unfolding calls
returns-in-2 c = entered (pos 2) _ _ _ c.enter-in-2.ensures c.level-in-2.ensures ∙ ap call_at (sym c.in-2.is)

pub returns-in-3 : goal.returns-in-3
unfolding calls
returns-in-3 c = ap call_at (sym c.in-3.is)

pub returns-in-4 : goal.returns-in-4
unfolding calls
returns-in-4 c = entered (pos 2) _ _ _ c.enter-in-4.ensures c.level-in-4.ensures ∙ ap call_at (sym c.in-4.is)

pub returns-in-5 : goal.returns-in-5
unfolding calls
returns-in-5 c = entered (pos 2) _ _ _ c.enter-in-5.ensures c.level-in-5.ensures ∙ ap call_at (sym c.in-5.is)

pub returns-in-6 : goal.returns-in-6
unfolding calls
returns-in-6 c = entered (pos 3) _ _ _ c.enter-in-6.ensures c.level-in-6.ensures ∙ ap call_at (sym c.in-6.is)

pub returns-in-7 : goal.returns-in-7
unfolding calls
returns-in-7 c = entered (pos 3) _ _ _ c.enter-in-7.ensures c.level-in-7.ensures ∙ ap call_at (sym c.in-7.is)

pub returns-in-8 : goal.returns-in-8
unfolding calls
returns-in-8 c = entered (pos 3) _ _ _ c.enter-in-8.ensures c.baseline_with.ensures ∙ ap call_at (sym c.in-8.is)

pub returns-in_default : goal.returns-in_default
unfolding calls
returns-in_default c = entered (pos 3) _ _ _ c.enter-in_default.ensures c.baseline_with-in_default.ensures ∙ sym (get_or-eq_default calls _ {n = c.args.c} (above 8 _ (above 7 _ (above 6 _ (above 5 _ (above 4 _ (above 3 _ (above 2 _ (above 1 _ (above 0 _ zero-le (λ e. omega arith)) (λ e. omega arith)) (λ e. omega arith)) (λ e. omega arith)) (λ e. omega arith)) (λ e. omega arith)) (λ e. omega arith)) (λ e. omega arith)) (λ e. omega arith)))
