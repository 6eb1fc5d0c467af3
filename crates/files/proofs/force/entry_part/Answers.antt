-- `entry_part` is the part from `at` to 128 bytes further. Assumes nothing.
use Rattle.std.proofs.Common.{◌≡◌, ◌+◌, ◌-◌, refl, arith}
use Rattle.files.proofs.force.entry_part.Goals as goal

pub returns : goal.returns
returns c =
    let at = c.args.at in
    let width : at + 128 - at ≡ 128 = omega arith in
    (rw width, refl)
