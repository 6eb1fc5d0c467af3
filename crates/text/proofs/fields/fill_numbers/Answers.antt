-- A field that is no number ends the loop (`fill_wrong`), so does the last one (`fill_last`) and a full list (`fill_full`). Assumes nothing.
use Rattle.std.proofs.Common.{◌<◌, ◌-◌, ℕ, List, length, rules, arith, sym, ap, ◌∙◌, w64, to_z-of_z}
use Rattle.std.proofs.lemmas.List.{set-get_or}
use Rattle.std.proofs.lemmas.List.Edits.{sets}
use Rattle.text.specs.FieldLaws.{end_within, fields_here, fields-last, fields-more}
use Rattle.text.specs.Reading.{leading, fill_start, fill_wrong, fill_last, fill_more, fill_full}
use Rattle.text.proofs.fields.fill_numbers.Goals as goal

pub loop-x-init : goal.loop-x-init
loop-x-init c = (omega arith, fill_start _ c.args.out.now _)

pub slice_bounds-number_of-end : goal.slice_bounds-number_of-end
slice_bounds-number_of-end c = end_within _ _ _ c.field_end-end.ensures c.loop-x.invariant.0

pub returns-in_default : goal.returns-in_default
returns-in_default c =
    let room : c.loop-x.x-index < length c.args.out.now = omega arith in
    set-get_or _ _ _
    ∙ fill_wrong _ _ _ _ _ room c.number_of.ensures _ c.in_default.is
    ∙ ap (λ (fs : List (List ℕ)). sets c.loop-x.out c.loop-x.x-index (leading (length c.args.out.now - c.loop-x.x-index) fs)) (sym (fields_here _ _ _ c.field_end-end.ensures))
    ∙ c.loop-x.invariant.1

pub returns-then-s-end : goal.returns-then-s-end
returns-then-s-end c =
    let room : c.loop-x.x-index < length c.args.out.now = omega arith in
    fill_last _ _ _ _ _ room c.number_of.ensures _ c.in-Some.is _ (to_z-of_z {w = w64} (search rules))
    ∙ ap (λ (fs : List (List ℕ)). sets c.loop-x.out c.loop-x.x-index (leading (length c.args.out.now - c.loop-x.x-index) fs)) (sym (fields-last _ _ _ c.field_end-end.ensures c.if-s-end.true))
    ∙ c.loop-x.invariant.1

pub loop-x-preserved : goal.loop-x-preserved
loop-x-preserved c =
    let room : c.loop-x.x-index < length c.args.out.now = omega arith in (
      omega (arith, c.if-s-end.false),
      fill_more _ _ _ _ _ room c.number_of.ensures _ c.in-Some.is _ (to_z-of_z {w = w64} (search rules)) _
          ∙ ap (λ (fs : List (List ℕ)). sets c.loop-x.out c.loop-x.x-index (leading (length c.args.out.now - c.loop-x.x-index) fs)) (sym (fields-more _ _ _ c.field_end-end.ensures c.if-s-end.false))
          ∙ c.loop-x.invariant.1,
    )

pub returns : goal.returns
returns c = fill_full _ _ _ _ (omega (arith, c.loop-x-test.false)) ∙ c.loop-x.invariant.1
