-- By whether the record acts: if not, 0; else the numbers are small, so the product and both differences fit (`difference`). Assumes nothing.
use mathlib.Core.Path.{refl}
use Prim.Native.Nat.{◌+◌, ◌*◌}
use lib.ListN.{get_or}
use lib.IntN.{pos}
use Rattle.integers.specs.Code.{fit, code_bounds}
use Rattle.network.specs.Records.{misclosure_at}
use Rattle.network.proofs.Differences.{difference}
use Rattle.network.proofs.records.misclosure.Goals as goal

pub overflow_mul-result : goal.overflow_mul-result
overflow_mul-result c =
    let g = c.requires.2 in let o = c.requires.4 in let x = c.requires.5.bound (c.args.f * 3 + c.args.a) in let y = c.requires.5.bound (c.args.t * 3 + c.args.a) in
    fit (search code_bounds depth 8) tt

pub overflow_sub-result : goal.overflow_sub-result
overflow_sub-result c =
    let g = c.requires.2 in let o = c.requires.4 in let x = c.requires.5.bound (c.args.f * 3 + c.args.a) in let y = c.requires.5.bound (c.args.t * 3 + c.args.a) in
    fit (search code_bounds depth 8) tt

pub overflow_sub-result-2 : goal.overflow_sub-result-2
overflow_sub-result-2 c =
    let g = c.requires.2 in let o = c.requires.4 in let x = c.requires.5.bound (c.args.f * 3 + c.args.a) in let y = c.requires.5.bound (c.args.t * 3 + c.args.a) in
    fit (search code_bounds depth 8) tt

pub returns-then-not-acts : goal.returns-then-not-acts
returns-then-not-acts c = rw c.if-not-acts.true refl

pub returns : goal.returns
unfolding misclosure_at
returns c =
    let g = c.requires.2 in let o = c.requires.4 in let x = c.requires.5.bound (c.args.f * 3 + c.args.a) in let y = c.requires.5.bound (c.args.t * 3 + c.args.a) in
    rw c.if-not-acts.false
    (difference c.args.reduced (get_or c.args.coordinate.now (c.args.t * 3 + c.args.a) (pos 0)) c.args.g (get_or c.args.coordinate.now (c.args.f * 3 + c.args.a) (pos 0)) o y g x)
