-- `right_words`: the place, and the kind with its zeros. Assumes nothing.
use Rattle.std.proofs.Common.{◌&&◌, get_or, ℤ, pos, ap, ◌∙◌, to_z-of_z, w64, rules}
use lib.Signed.{le_z}
use Rattle.files.specs.Entries.{right_words}
use Rattle.files.proofs.Tests.{and_then, and_no}
use Rattle.files.proofs.entries.right_words.Goals as goal

pub returns-then-is_place : goal.returns-then-is_place
unfolding right_words
returns-then-is_place c =
    and_then
    (c.is_place.ensures ∙ ap (λ (z : ℤ). le_z (pos 1) z && le_z z (pos 256)) (to_z-of_z {w = w64} {z = get_or c.args.w.now 1 (pos 0)} (search rules)))
    c.if-is_place.true c.kind_right.ensures

pub returns-else-is_place : goal.returns-else-is_place
unfolding right_words
returns-else-is_place c =
    and_no _
    (c.is_place.ensures ∙ ap (λ (z : ℤ). le_z (pos 1) z && le_z z (pos 256)) (to_z-of_z {w = w64} {z = get_or c.args.w.now 1 (pos 0)} (search rules)))
    c.if-is_place.false
