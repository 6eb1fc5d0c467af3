-- `baseline_line`: by how many numbers there are. Of 12 the two heights are read as the 0 that the array had (`heights_lacking`). Assumes nothing.
use Rattle.std.proofs.Common.{◌≡◌, refl, ◌∙◌, le_refl, lit≤, Some, pos, get_or, SFits, rules, w64, to_z, of_z, to_z-of_z, inl, inr}
use Rattle.network.specs.RecordWords.{record_of}
use Rattle.commands.specs.CommandLaws.{exactly-none, exactly_other, exactly_all, exactly_front, zeros, heights_lacking}
use Rattle.commands.specs.Commands.{with_heights, without_heights}
use Rattle.commands.proofs.reading.baseline_line.Goals as goal

pub returns-in_err-n : goal.returns-in_err-n
returns-in_err-n c =
    c.from_residual.ensures
    ∙ exactly-none 14 14 _ _ _ _ c.read_rest.ensures _ with_heights (le_refl 14) c.in_err-n.was
    ∙ exactly-none 14 12 _ _ _ _ c.read_rest.ensures _ without_heights (lit≤ tt) c.in_err-n.was

pub returns-then-n-ne14 : goal.returns-then-n-ne14
returns-then-n-ne14 c =
    exactly_other 14 14 _ _ _ _ c.read_rest.ensures _ with_heights _ c.in_ok-n.was c.if-n-ne14.true
    ∙ exactly_other 14 12 _ _ _ _ c.read_rest.ensures _ without_heights _ c.in_ok-n.was c.if-n-ne12.true

pub returns : goal.returns
unfolding record_of
returns c =
    let fits : SFits w64 (get_or c.read_rest.new.out 0 (pos 0)) = search rules in
    let made : Some (record { place = to_z w64 (of_z w64 (get_or c.read_rest.new.out 0 (pos 0))); of = c.baseline_in-of.result }) ≡ with_heights (λ i. get_or c.read_rest.new.out i (pos 0)) =
    λ i. Some (record { place = to_z-of_z {w = w64} fits i; of = c.baseline_in-of.ensures i }) in
    elim c.else-n-ne12.either [
      | inl (other, all) ↦
          made
          ∙ exactly_all 14 14 _ _ _ _ c.read_rest.ensures _ with_heights _ c.in_ok-n.was all refl
          ∙ exactly_other 14 12 _ _ _ _ c.read_rest.ensures _ without_heights _ c.in_ok-n.was other
      | inr front ↦
          made
          ∙ exactly_front 14 12 _ _ _ _ c.read_rest.ensures _ with_heights _ c.in_ok-n.was front (lit≤ tt) (λ i h. zeros 14 i)
          ∙ heights_lacking _ _
    ]
