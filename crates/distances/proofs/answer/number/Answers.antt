-- By the answer: a refusal's number is at most 17 (`agreement_most`), so the cast keeps it. Assumes nothing.
use Prim.Native.Nat.{◌≤◌}
use mathlib.Core.Path.{◌≡◌, sym, ap, ◌∙◌, subst}
use native.Mathlib.Omega.{arith}
use lib.IntN.{ℤ, pos, nat_abs}
use mir.Syntax.{w64}
use mir.Facts.{to_z-of_z}
use Rattle.distances.specs.Distances.{agreement_number}
use Rattle.distances.specs.DistanceLaws.{agreement_most}
use Rattle.distances.proofs.answer.number.Goals as goal

pub overflow_cast-result : goal.overflow_cast-result
overflow_cast-result c =
    let number_is : pos c.from.result ≡ agreement_number c.args.answer = ap pos c.from.ensures ∙ ap agreement_number (sym c.in-Err.is) in
    let h : c.from.result ≤ 17 = subst (λ (z : ℤ). nat_abs z ≤ 17) (sym number_is) (agreement_most c.args.answer) in
    record { sfits = omega arith }

pub returns-in-Err : goal.returns-in-Err
returns-in-Err c =
    let number_is : pos c.from.result ≡ agreement_number c.args.answer = ap pos c.from.ensures ∙ ap agreement_number (sym c.in-Err.is) in
    let h : c.from.result ≤ 17 = subst (λ (z : ℤ). nat_abs z ≤ 17) (sym number_is) (agreement_most c.args.answer) in
    to_z-of_z {w = w64} (record { sfits = omega arith }) ∙ number_is
