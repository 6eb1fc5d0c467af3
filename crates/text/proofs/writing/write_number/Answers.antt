-- By the sign: `-` and the digits of the size (`signed_decimal`), or the digits alone (`unsigned-decimal`). Assumes nothing.
use Rattle.std.proofs.Common.{◌≡◌, true, false, pos, nat_abs, rules}
use Rattle.std.specs.Int.Signed.{lt_z}
use Rattle.text.proofs.Steps.{unsigned-decimal, signed_decimal}
use Rattle.text.proofs.writing.write_number.Goals as goal

pub returns-then-v-lt0-clause-written : goal.returns-then-v-lt0-clause-written
returns-then-v-lt0-clause-written c =
    let size : c.unsigned_abs-n.result ≡ nat_abs c.args.v = search rules in
    let sign : lt_z c.args.v (pos 0) ≡ true = search rules in
    signed_decimal _ _ _ _ _ _ size _ _ sign c.write_byte-p.ensures c.write_digits.ensures.written

pub returns-clause-written : goal.returns-clause-written
returns-clause-written c =
    let size : c.unsigned_abs-n.result ≡ nat_abs c.args.v = search rules in
    let sign : lt_z c.args.v (pos 0) ≡ false = search rules in
    unsigned-decimal _ _ _ _ _ _ size sign c.write_digits-2.ensures.written
