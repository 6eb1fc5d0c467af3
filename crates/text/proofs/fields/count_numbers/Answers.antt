-- A field that is no number ends the loop (`count_wrong`), so does the last (`count_last`) and one beyond the most (`count_full`). Assumes nothing.
use Rattle.std.proofs.Common.{ℕ, List, arith, sym, ap, ◌∙◌}
use Rattle.text.specs.Fields.{numbers_in}
use Rattle.text.specs.FieldLaws.{first_and_rest, end_within, fields_here, fields-last, fields-more}
use Rattle.text.specs.Reading.{count_after, count_start, count_wrong, count_last, count_more, count_full}
use Rattle.text.proofs.fields.count_numbers.Goals as goal

pub loop-n-init : goal.loop-n-init
loop-n-init c = (omega arith, count_start _ _)

pub slice_bounds-number_of-end : goal.slice_bounds-number_of-end
slice_bounds-number_of-end c = end_within _ _ _ c.field_end-end.ensures c.loop-n.invariant.0

pub returns-in_err-number_of : goal.returns-in_err-number_of
returns-in_err-number_of c =
    c.from_residual.ensures
    ∙ count_wrong _ _ _ _ c.number_of.ensures _ c.in_err-number_of.was
    ∙ ap (λ (fs : List (List ℕ)). count_after c.loop-n.n c.args.most (numbers_in fs)) (sym (fields_here _ _ _ c.field_end-end.ensures))
    ∙ c.loop-n.invariant.1

pub returns-then-s-end : goal.returns-then-s-end
returns-then-s-end c =
    count_last _ _ _ _ c.number_of.ensures _ c.in_ok-number_of.was c.loop-n-test.true
    ∙ ap (λ (fs : List (List ℕ)). count_after c.loop-n.n c.args.most (numbers_in fs)) (sym (fields-last _ _ _ c.field_end-end.ensures c.if-s-end.true))
    ∙ c.loop-n.invariant.1

pub loop-n-preserved : goal.loop-n-preserved
loop-n-preserved c = (
  omega (arith, c.if-s-end.false),
  count_more _ _ _ _ c.number_of.ensures _ c.in_ok-number_of.was _
      ∙ ap (λ (fs : List (List ℕ)). count_after c.loop-n.n c.args.most (numbers_in fs)) (sym (fields-more _ _ _ c.field_end-end.ensures c.if-s-end.false))
      ∙ c.loop-n.invariant.1,
)

pub returns : goal.returns
returns c =
    count_full _ _ _ _ c.loop-n-test.false
    ∙ ap (λ (fs : List (List ℕ)). count_after c.loop-n.n c.args.most (numbers_in fs)) (sym (first_and_rest _))
    ∙ c.loop-n.invariant.1
