-- The two variances are at most 2^34 and 2^36, so their difference fits and is what the local test asks for. Assumes nothing.
use borrow.Author.Rules.{sfits_of}
use native.Mathlib.Omega.{arith}
use Prim.Native.Nat.{◌≤◌, ◌^◌}
use mathlib.Core.Path.{◌≡◌, ap, ◌∙◌}
use mathlib.Core.List.{[], ◌∷◌}
use lib.IntN.{ℤ, nat_abs, ◌-ℤ◌, ◌*ℤ◌}
use mir.Syntax.{w64}
use mir.ValLaws.{to_z-of_z}
use Rattle.integers.specs.Bounds.{bounds, absle}
use Rattle.integers.specs.Code.{fit, code_bounds, ringm, code_shapes}
use Rattle.integers.specs.Division.{floor_div}
use Rattle.lists.specs.Stored.{stored, back, kept}
use Rattle.integers.specs.Inverses.{S}
use Rattle.residuals.specs.Verdicts.{verdict_word}
use Rattle.residuals.specs.Components.{difference-size}
use Rattle.residuals.specs.Weights.{observation_size}
use Rattle.residuals.specs.Observations.{verdict_of}
use Rattle.residuals.proofs.variances.Covariances.verdict_at.Goals as goal

difference : (o d : ℤ) → nat_abs o ≤ 2 ^ 34 → nat_abs d ≤ 2 ^ 36 → stored (stored o -ℤ stored d) ≡ o -ℤ d
difference o d p q = ringm (o ∷ d ∷ []) (search code_shapes depth 20) tt

small : (o d : ℤ) → nat_abs o ≤ 2 ^ 34 → nat_abs d ≤ 2 ^ 36 → nat_abs (stored (stored o -ℤ stored d)) ≤ 2 ^ 40
small o d p q = rw (difference o d p q) (absle (o -ℤ d) (search bounds) (omega arith))

pub overflow_sub-q : goal.overflow_sub-q
overflow_sub-q c =
    let observed-is : c.observation_variance-w.result ≡ floor_div (S *ℤ c.args.o.adjugate) (nat_abs c.args.o.determinant) = let q = c.requires.quotient in
    c.observation_variance-w.ensures ∙ rw (back c.args.o.adjugate q.small tt, back c.args.o.determinant q.size tt) in
    let observed : nat_abs c.observation_variance-w.result ≤ 2 ^ 34 = rw observed-is (observation_size c.requires.quotient) in
    let differs : nat_abs c.difference_variance-d.result ≤ 2 ^ 36 = rw c.difference_variance-d.ensures (difference-size c.args.self.looked_up c.args.o.to c.args.o.from c.args.o.joins c.requires.joined) in
    let o = observed in let d = differs in fit (search code_bounds depth 20) tt

pub local_verdict-requires : goal.local_verdict-requires
local_verdict-requires c =
    let observed-is : c.observation_variance-w.result ≡ floor_div (S *ℤ c.args.o.adjugate) (nat_abs c.args.o.determinant) = let q = c.requires.quotient in
    c.observation_variance-w.ensures ∙ rw (back c.args.o.adjugate q.small tt, back c.args.o.determinant q.size tt) in
    let observed : nat_abs c.observation_variance-w.result ≤ 2 ^ 34 = rw observed-is (observation_size c.requires.quotient) in
    let differs : nat_abs c.difference_variance-d.result ≤ 2 ^ 36 = rw c.difference_variance-d.ensures (difference-size c.args.self.looked_up c.args.o.to c.args.o.from c.args.o.joins c.requires.joined) in
    (kept c.args.o.residual c.requires.small tt, small c.observation_variance-w.result c.difference_variance-d.result observed differs)

pub returns : goal.returns
unfolding verdict_of
returns c =
    let observed-is : c.observation_variance-w.result ≡ floor_div (S *ℤ c.args.o.adjugate) (nat_abs c.args.o.determinant) = let q = c.requires.quotient in
    c.observation_variance-w.ensures ∙ rw (back c.args.o.adjugate q.small tt, back c.args.o.determinant q.size tt) in
    let observed : nat_abs c.observation_variance-w.result ≤ 2 ^ 34 = rw observed-is (observation_size c.requires.quotient) in
    let differs : nat_abs c.difference_variance-d.result ≤ 2 ^ 36 = rw c.difference_variance-d.ensures (difference-size c.args.self.looked_up c.args.o.to c.args.o.from c.args.o.joins c.requires.joined) in
    to_z-of_z w64 c.from.result (sfits_of c.from.type_inv)
    ∙ c.from.ensures
    ∙ ap verdict_word c.local_verdict.ensures
    ∙ rw (back c.args.o.residual c.requires.small tt, difference c.observation_variance-w.result c.difference_variance-d.result observed differs, observed-is, c.difference_variance-d.ensures)
