-- `index_in`: the number as an unsigned one, and where it lies. Assumes nothing.
use Rattle.std.proofs.Common.{◌≡◌, to_z, of_z, arith}
use Rattle.std.specs.Int.{w64}
use Rattle.std.proofs.lemmas.Int.{to_z-of_z}
use Rattle.words.proofs.Index.{Number, number, no_number, inside, beyond}
use Rattle.words.proofs.signed.index_in.Goals as goal

pub returns-then-k-eq0 : goal.returns-then-k-eq0
returns-then-k-eq0 c =
    let same : to_z w64 (of_z w64 c.args.v) ≡ c.args.v = to_z-of_z w64 c.args.v c.ranges.v in
    let is : Number c.args.v c.unwrap_or-k.result = number _ _ _ c.ranges.v (rw same at c.try_from.ensures) c.unwrap_or-k.ensures in
    no_number _ _ _ is c.if-k-eq0.true

pub returns-then-k-n : goal.returns-then-k-n
returns-then-k-n c =
    let same : to_z w64 (of_z w64 c.args.v) ≡ c.args.v = to_z-of_z w64 c.args.v c.ranges.v in
    let is : Number c.args.v c.unwrap_or-k.result = number _ _ _ c.ranges.v (rw same at c.try_from.ensures) c.unwrap_or-k.ensures in
    inside _ _ _ is (omega (arith, c.if-k-eq0.false)) c.if-k-n.true

pub returns-else-k-n : goal.returns-else-k-n
returns-else-k-n c =
    let same : to_z w64 (of_z w64 c.args.v) ≡ c.args.v = to_z-of_z w64 c.args.v c.ranges.v in
    let is : Number c.args.v c.unwrap_or-k.result = number _ _ _ c.ranges.v (rw same at c.try_from.ensures) c.unwrap_or-k.ensures in
    beyond _ _ _ is c.if-k-n.false
