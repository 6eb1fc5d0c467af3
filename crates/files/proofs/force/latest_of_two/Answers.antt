-- `latest_of_two`, by its three ways out. Assumes nothing.
use Rattle.std.proofs.Common.{sym, ap, ◌∙◌, to_z-of_z, w64}
use Rattle.files.specs.Files.{latest_entry}
use Rattle.files.proofs.Ways.{in_night, in_day, in_none}
use Rattle.files.proofs.force.latest_of_two.Goals as goal

pub returns-in-Some : goal.returns-in-Some
returns-in-Some c = in_night _ _ _ (c.in-Some.ensures.0 ∙ ap (latest_entry c.args.night.now) (to_z-of_z {w = w64} c.ranges.place)) c.in-Some.ensures.1

pub returns-in-Some-latest_entry : goal.returns-in-Some-latest_entry
returns-in-Some-latest_entry c =
    in_day _ _ _ (ap (latest_entry c.args.night.now) (sym (to_z-of_z {w = w64} c.ranges.place)) ∙ c.in-None.ensures)
    (c.in-Some-latest_entry.ensures.0 ∙ ap (latest_entry c.args.day.now) (to_z-of_z {w = w64} c.ranges.place)) c.in-Some-latest_entry.ensures.1

pub returns-in-None-latest_entry : goal.returns-in-None-latest_entry
returns-in-None-latest_entry c =
    in_none _ _ _ (ap (latest_entry c.args.night.now) (sym (to_z-of_z {w = w64} c.ranges.place)) ∙ c.in-None.ensures)
    (ap (latest_entry c.args.day.now) (sym (to_z-of_z {w = w64} c.ranges.place)) ∙ c.in-None-latest_entry.ensures)
