-- `find`: the refusals in their order, and then the latest entry. Assumes nothing.
use Rattle.std.proofs.Common.{◌≡◌, ◌&&◌, ℤ, pos, sym, ap, ◌∙◌, to_z-of_z, w64}
use lib.Signed.{le_z}
use Rattle.files.specs.Files.{reads}
use Rattle.files.specs.Force.{force_in}
use Rattle.files.proofs.Tests.{and_then, and_no}
use Rattle.files.proofs.Ways.{place_no_lem, reads_no, both_read}
use Rattle.files.proofs.force.find.Goals as goal
use Rattle.files.proofs.force.find.Goals.{then-holds_file, else-holds_file}

pub returns-then-not-is_place : goal.returns-then-not-is_place
returns-then-not-is_place c =
    let place_is : c.is_place.result ≡ (le_z (pos 1) c.args.place && le_z c.args.place (pos 256)) = c.is_place.ensures ∙ ap (λ (z : ℤ). le_z (pos 1) z && le_z z (pos 256)) (to_z-of_z {w = w64} c.ranges.place) in
    place_no_lem _ _ _ (sym place_is ∙ c.if-not-is_place.true)

pub returns-then-not-holds_file : goal.returns-then-not-holds_file
returns-then-not-holds_file c =
    let place_is : c.is_place.result ≡ (le_z (pos 1) c.args.place && le_z c.args.place (pos 256)) = c.is_place.ensures ∙ ap (λ (z : ℤ). le_z (pos 1) z && le_z z (pos 256)) (to_z-of_z {w = w64} c.ranges.place) in
    let read_are : c.if-holds_file.value ≡ (reads c.args.night.now && reads c.args.day.now) = elim c.if-holds_file.branch [
      | then-holds_file b ↦ b.value-is ∙ and_then c.holds_file.ensures b.if-holds_file.true b.holds_file-then-holds_file.ensures
      | else-holds_file b ↦ b.value-is ∙ and_no _ c.holds_file.ensures b.if-holds_file.false
    ] in
    reads_no _ _ _ (sym place_is ∙ c.if-not-is_place.false) (sym read_are ∙ c.if-not-holds_file.true)

pub returns : goal.returns
returns c =
    let place_is : c.is_place.result ≡ (le_z (pos 1) c.args.place && le_z c.args.place (pos 256)) = c.is_place.ensures ∙ ap (λ (z : ℤ). le_z (pos 1) z && le_z z (pos 256)) (to_z-of_z {w = w64} c.ranges.place) in
    let read_are : c.if-holds_file.value ≡ (reads c.args.night.now && reads c.args.day.now) = elim c.if-holds_file.branch [
      | then-holds_file b ↦ b.value-is ∙ and_then c.holds_file.ensures b.if-holds_file.true b.holds_file-then-holds_file.ensures
      | else-holds_file b ↦ b.value-is ∙ and_no _ c.holds_file.ensures b.if-holds_file.false
    ] in
    both_read _ _ _ (sym place_is ∙ c.if-not-is_place.false) (sym read_are ∙ c.if-not-holds_file.false)
    (c.latest_of_two.ensures ∙ ap (force_in c.args.night.now c.args.day.now) (to_z-of_z {w = w64} c.ranges.place))
