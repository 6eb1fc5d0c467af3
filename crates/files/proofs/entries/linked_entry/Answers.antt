-- `linked_entry`: a right entry, and the trailer's two pointers. Assumes nothing.
use Rattle.std.proofs.Common.{◌≡◌, ◌&&◌, get_or, pos, ap, ◌∙◌, eqb, of_z, w64, rules}
use Rattle.words.specs.Signed.{eq_z, signed}
use Rattle.files.specs.Entries.{right_entry, linked_entry}
use Rattle.files.proofs.Tests.{and_then, and_no}
use Rattle.files.proofs.entries.linked_entry.Goals as goal
use Rattle.files.proofs.entries.linked_entry.Goals.{then-right_entry, else-right_entry}

pub returns-then-w-to_signed : goal.returns-then-w-to_signed
unfolding linked_entry
returns-then-w-to_signed c =
    let w = c.args.w.now in
    let first : c.if-right_entry.value ≡ (right_entry w && eq_z (get_or w 13 (pos 0)) (signed c.args.at)) = elim c.if-right_entry.branch [
      | then-right_entry b ↦
          let same : eqb (of_z w64 (get_or w 13 (pos 0))) (of_z w64 b.to_signed.result) ≡ eq_z (get_or w 13 (pos 0)) b.to_signed.result = search rules in
          b.value-is ∙ and_then c.right_entry.ensures b.if-right_entry.true (same ∙ ap (eq_z (get_or w 13 (pos 0))) b.to_signed.ensures)
      | else-right_entry b ↦ b.value-is ∙ and_no _ c.right_entry.ensures b.if-right_entry.false
    ] in
    let same : eqb (of_z w64 (get_or w 14 (pos 0))) (of_z w64 c.previous_trailer.result) ≡ eq_z (get_or w 14 (pos 0)) c.previous_trailer.result = search rules in
    and_then first c.if-w-to_signed.true (same ∙ ap (eq_z (get_or w 14 (pos 0))) c.previous_trailer.ensures)

pub returns-else-w-to_signed : goal.returns-else-w-to_signed
unfolding linked_entry
returns-else-w-to_signed c =
    let w = c.args.w.now in
    let first : c.if-right_entry.value ≡ (right_entry w && eq_z (get_or w 13 (pos 0)) (signed c.args.at)) = elim c.if-right_entry.branch [
      | then-right_entry b ↦
          let same : eqb (of_z w64 (get_or w 13 (pos 0))) (of_z w64 b.to_signed.result) ≡ eq_z (get_or w 13 (pos 0)) b.to_signed.result = search rules in
          b.value-is ∙ and_then c.right_entry.ensures b.if-right_entry.true (same ∙ ap (eq_z (get_or w 13 (pos 0))) b.to_signed.ensures)
      | else-right_entry b ↦ b.value-is ∙ and_no _ c.right_entry.ensures b.if-right_entry.false
    ] in
    and_no _ first c.if-w-to_signed.false
