-- Where the record is in the adjustment, the weighted squares of its residuals; else 0. Assumes nothing.
use borrow.Author.Rules.{sfits_of}
use mathlib.Core.Path.{sym, ap, ◌∙◌}
use mathlib.Core.Bool.{Bool, cond}
use lib.IntN.{pos}
use mir.Syntax.{w64}
use mir.ValLaws.{to_z-of_z}
use Rattle.sheet.specs.Totals.{weighted_squares_in, share_tin, squares_of, residuals_within, weights-within}
use Rattle.sheet.proofs.totals.share_of_t.Goals as goal

pub weighted_squares-requires : goal.weighted_squares-requires
weighted_squares-requires c =
    let w = c.requires in
    (rw c.residuals_of-v.ensures (residuals_within w.closes), rw c.weights_of-w.ensures (weights-within w))

pub returns-then-in_adjustment : goal.returns-then-in_adjustment
unfolding share_tin
returns-then-in_adjustment c =
    let v = weighted_squares_in c.args.coordinate.now c.args.correction.now c.args.r in
    to_z-of_z w64 c.weighted_squares.result (sfits_of c.weighted_squares.type_inv)
    ∙ c.weighted_squares.ensures
    ∙ rw (c.residuals_of-v.ensures, c.weights_of-w.ensures) (squares_of c.args.coordinate.now c.args.correction.now c.args.r)
    ∙ ap (λ (b : Bool). cond b v (pos 0)) (sym c.if-in_adjustment.true ∙ c.in_adjustment.ensures)

pub returns : goal.returns
unfolding share_tin
returns c =
    let v = weighted_squares_in c.args.coordinate.now c.args.correction.now c.args.r in
    ap (λ (b : Bool). cond b v (pos 0)) (sym c.if-in_adjustment.false ∙ c.in_adjustment.ensures)
