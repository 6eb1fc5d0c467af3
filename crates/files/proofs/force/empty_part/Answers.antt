-- `empty_part` is the part from 0 to 0. Assumes nothing.
use Rattle.std.proofs.Common.{◌≡◌, ℕ, ◌+◌, refl, ap, arith}
use Rattle.files.proofs.force.empty_part.Goals as goal

pub returns : goal.returns
returns c =
    let p = c.args.file.ref_ptr in
    let z : 0 + p.1 ≡ p.1 = omega arith in
    (refl, ap (λ (n : ℕ). (p.0, n)) z)
