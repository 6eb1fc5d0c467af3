-- `in_force` shows what `find` found. Assumes nothing.
use Rattle.std.proofs.Common.{◌≡◌, ap, ◌∙◌, to_z-of_z, w64}
use Rattle.files.specs.Force.{in_force}
use Rattle.files.proofs.ForceLaws.{found_inside}
use Rattle.files.proofs.force.in_force.Goals as goal

pub part-requires : goal.part-requires
part-requires c =
    let found-is : c.find-found.result ≡ in_force c.args.night.now c.args.day.now c.args.place = c.find-found.ensures ∙ ap (in_force c.args.night.now c.args.day.now) (to_z-of_z {w = w64} c.ranges.place) in
    rw found-is (found_inside _ _ _)

pub returns : goal.returns
returns c =
    let found-is : c.find-found.result ≡ in_force c.args.night.now c.args.day.now c.args.place = c.find-found.ensures ∙ ap (in_force c.args.night.now c.args.day.now) (to_z-of_z {w = w64} c.ranges.place) in
    rw found-is at c.part.ensures
