-- `judge_numbers` answers with the first test that fails; each test asks what those before it told. Assumes nothing.
use mathlib.Core.Path.{◌≡◌, sym, ◌∙◌}
use mathlib.Core.Bool.{Bool, true, false}
use Rattle.acceptance.specs.Tests.{at, by_rows, corrections_small, inverse_small, defect_small, residual_small, refinement_small}
use Rattle.acceptance.specs.Judge.{judge_numbers}
use Rattle.acceptance.specs.JudgeLaws.{corrections_small_lem, inverse-small, residual-is, refinement-is, residual-sizes, front-is}
use Rattle.acceptance.proofs.judge.judge_numbers.Goals as goal

pub returns-then-not-all_within : goal.returns-then-not-all_within
unfolding judge_numbers corrections_small
returns-then-not-all_within c =
    let three : (b : Bool) → c.all_within.result ≡ b → corrections_small c.args.x.now ≡ b = λ b e. sym c.all_within.ensures ∙ e in
    rw (three false c.if-not-all_within.true)

pub returns-then-not-all_within-2 : goal.returns-then-not-all_within-2
unfolding judge_numbers inverse_small corrections_small
returns-then-not-all_within-2 c =
    let four : (b : Bool) → c.all_within-2.result ≡ b → inverse_small c.args.m.now ≡ b = λ b e. sym c.all_within-2.ensures ∙ e in
    let three : (b : Bool) → c.all_within.result ≡ b → corrections_small c.args.x.now ≡ b = λ b e. sym c.all_within.ensures ∙ e in
    let passed3 : corrections_small c.args.x.now ≡ true = three true c.if-not-all_within.false in
    rw (passed3, four false c.if-not-all_within-2.true)

pub rows_near-requires : goal.rows_near-requires
unfolding inverse_small
rows_near-requires c =
    let four : (b : Bool) → c.all_within-2.result ≡ b → inverse_small c.args.m.now ≡ b = λ b e. sym c.all_within-2.ensures ∙ e in
    let passed4 : inverse_small c.args.m.now ≡ true = four true c.if-not-all_within-2.false in
    record { few = c.requires.few; long = c.requires.square; inverse = inverse-small _ passed4; matrix = c.requires.matrix }

pub returns-then-not-rows_near : goal.returns-then-not-rows_near
unfolding judge_numbers corrections_small inverse_small
returns-then-not-rows_near c =
    let five : (b : Bool) → c.rows_near.result ≡ b → defect_small c.args.n (by_rows 48 c.args.normal.now) (by_rows c.args.n c.args.m.now) ≡ b = λ b e. sym c.rows_near.ensures ∙ e in
    let three : (b : Bool) → c.all_within.result ≡ b → corrections_small c.args.x.now ≡ b = λ b e. sym c.all_within.ensures ∙ e in
    let passed3 : corrections_small c.args.x.now ≡ true = three true c.if-not-all_within.false in
    let four : (b : Bool) → c.all_within-2.result ≡ b → inverse_small c.args.m.now ≡ b = λ b e. sym c.all_within-2.ensures ∙ e in
    let passed4 : inverse_small c.args.m.now ≡ true = four true c.if-not-all_within-2.false in
    rw (passed3, passed4, five false c.if-not-rows_near.true)

pub normal_residual-r-requires : goal.normal_residual-r-requires
unfolding corrections_small
normal_residual-r-requires c =
    let three : (b : Bool) → c.all_within.result ≡ b → corrections_small c.args.x.now ≡ b = λ b e. sym c.all_within.ensures ∙ e in
    let passed3 : corrections_small c.args.x.now ≡ true = three true c.if-not-all_within.false in
    record {
      few = c.requires.few;
      long = c.requires.corrections;
      corrections = corrections_small_lem _ passed3;
      matrix = c.requires.matrix;
      absolute = c.requires.absolute;
    }

pub returns-then-not-all_within-3 : goal.returns-then-not-all_within-3
unfolding judge_numbers corrections_small inverse_small
returns-then-not-all_within-3 c =
    let five : (b : Bool) → c.rows_near.result ≡ b → defect_small c.args.n (by_rows 48 c.args.normal.now) (by_rows c.args.n c.args.m.now) ≡ b = λ b e. sym c.rows_near.ensures ∙ e in
    let six : (b : Bool) → c.all_within-3.result ≡ b → residual_small c.args.n (by_rows 48 c.args.normal.now) (at c.args.right.now) (at c.args.x.now) ≡ b = λ b e. sym (residual-is c.args.n c.args.normal.now c.args.right.now c.args.x.now c.args.m.now _ c.normal_residual-r.ensures)
    ∙ (front-is c.args.n c.requires.few _ c.normal_residual-r.ensures.room ∙ (sym c.all_within-3.ensures ∙ e)) in
    let three : (b : Bool) → c.all_within.result ≡ b → corrections_small c.args.x.now ≡ b = λ b e. sym c.all_within.ensures ∙ e in
    let passed3 : corrections_small c.args.x.now ≡ true = three true c.if-not-all_within.false in
    let four : (b : Bool) → c.all_within-2.result ≡ b → inverse_small c.args.m.now ≡ b = λ b e. sym c.all_within-2.ensures ∙ e in
    let passed4 : inverse_small c.args.m.now ≡ true = four true c.if-not-all_within-2.false in
    rw (passed3, passed4, five true c.if-not-rows_near.false, six false c.if-not-all_within-3.true)

pub refinements_within-requires : goal.refinements_within-requires
unfolding inverse_small
refinements_within-requires c =
    let four : (b : Bool) → c.all_within-2.result ≡ b → inverse_small c.args.m.now ≡ b = λ b e. sym c.all_within-2.ensures ∙ e in
    let passed4 : inverse_small c.args.m.now ≡ true = four true c.if-not-all_within-2.false in
    let r = c.normal_residual-r.ensures in
    record {
      few = c.requires.few;
      long = c.requires.square;
      inverse = inverse-small _ passed4;
      room = r.room;
      residual = residual-sizes c.args.n c.args.normal.now c.args.right.now c.args.x.now c.args.m.now _ r (front-is c.args.n c.requires.few _ r.room ∙ (sym c.all_within-3.ensures ∙ c.if-not-all_within-3.false));
    }

pub returns-then-not-refinements_within : goal.returns-then-not-refinements_within
unfolding judge_numbers corrections_small inverse_small
returns-then-not-refinements_within c =
    let five : (b : Bool) → c.rows_near.result ≡ b → defect_small c.args.n (by_rows 48 c.args.normal.now) (by_rows c.args.n c.args.m.now) ≡ b = λ b e. sym c.rows_near.ensures ∙ e in
    let six : (b : Bool) → c.all_within-3.result ≡ b → residual_small c.args.n (by_rows 48 c.args.normal.now) (at c.args.right.now) (at c.args.x.now) ≡ b = λ b e. sym (residual-is c.args.n c.args.normal.now c.args.right.now c.args.x.now c.args.m.now _ c.normal_residual-r.ensures)
    ∙ (front-is c.args.n c.requires.few _ c.normal_residual-r.ensures.room ∙ (sym c.all_within-3.ensures ∙ e)) in
    let seven : (b : Bool) → c.refinements_within.result ≡ b → refinement_small c.args.n (by_rows 48 c.args.normal.now) (by_rows c.args.n c.args.m.now) (at c.args.right.now) (at c.args.x.now) ≡ b = λ b e. sym (refinement-is c.args.n c.args.normal.now c.args.right.now c.args.x.now c.args.m.now _ c.normal_residual-r.ensures)
    ∙ (sym c.refinements_within.ensures ∙ e) in
    let three : (b : Bool) → c.all_within.result ≡ b → corrections_small c.args.x.now ≡ b = λ b e. sym c.all_within.ensures ∙ e in
    let passed3 : corrections_small c.args.x.now ≡ true = three true c.if-not-all_within.false in
    let four : (b : Bool) → c.all_within-2.result ≡ b → inverse_small c.args.m.now ≡ b = λ b e. sym c.all_within-2.ensures ∙ e in
    let passed4 : inverse_small c.args.m.now ≡ true = four true c.if-not-all_within-2.false in
    rw (
      passed3,
      passed4,
      five true c.if-not-rows_near.false,
      six true c.if-not-all_within-3.false,
      seven false c.if-not-refinements_within.true,
    )

pub returns : goal.returns
unfolding judge_numbers corrections_small inverse_small
returns c =
    let five : (b : Bool) → c.rows_near.result ≡ b → defect_small c.args.n (by_rows 48 c.args.normal.now) (by_rows c.args.n c.args.m.now) ≡ b = λ b e. sym c.rows_near.ensures ∙ e in
    let six : (b : Bool) → c.all_within-3.result ≡ b → residual_small c.args.n (by_rows 48 c.args.normal.now) (at c.args.right.now) (at c.args.x.now) ≡ b = λ b e. sym (residual-is c.args.n c.args.normal.now c.args.right.now c.args.x.now c.args.m.now _ c.normal_residual-r.ensures)
    ∙ (front-is c.args.n c.requires.few _ c.normal_residual-r.ensures.room ∙ (sym c.all_within-3.ensures ∙ e)) in
    let seven : (b : Bool) → c.refinements_within.result ≡ b → refinement_small c.args.n (by_rows 48 c.args.normal.now) (by_rows c.args.n c.args.m.now) (at c.args.right.now) (at c.args.x.now) ≡ b = λ b e. sym (refinement-is c.args.n c.args.normal.now c.args.right.now c.args.x.now c.args.m.now _ c.normal_residual-r.ensures)
    ∙ (sym c.refinements_within.ensures ∙ e) in
    let three : (b : Bool) → c.all_within.result ≡ b → corrections_small c.args.x.now ≡ b = λ b e. sym c.all_within.ensures ∙ e in
    let passed3 : corrections_small c.args.x.now ≡ true = three true c.if-not-all_within.false in
    let four : (b : Bool) → c.all_within-2.result ≡ b → inverse_small c.args.m.now ≡ b = λ b e. sym c.all_within-2.ensures ∙ e in
    let passed4 : inverse_small c.args.m.now ≡ true = four true c.if-not-all_within-2.false in
    rw (
      passed3,
      passed4,
      five true c.if-not-rows_near.false,
      six true c.if-not-all_within-3.false,
      seven true c.if-not-refinements_within.false,
    )
