-- The loop has filled the corrections of the components passed; each is the unknown's bit times the number at its index of x. Assumes nothing.
use borrow.Author.Rules.{rules}
use native.Mathlib.Omega.{arith}
use mathlib.Core.Path.{◌∙◌}
use mathlib.Core.List.{[], ◌∷◌}
use Prim.Native.Nat.{ℕ, ◌≤◌, ◌<◌}
use lib.ListN.{length, get_or}
use lib.IntN.{pos, nat_abs}
use Rattle.integers.specs.Code.{fit, code_bounds, ringm, code_shapes}
use Rattle.integers.specs.Tables.{get_d_tabulate, tabulate-ext}
use Rattle.lists.specs.Filling.{starts, goes_on, finish}
use Rattle.network.specs.Stations.{unknown, unknown_index}
use Rattle.network.specs.StationLaws.{unknown-bit}
use Rattle.residuals.specs.Residuals.{correction}
use Rattle.residuals.specs.Components.{unknown_index_below, correction_in}
use Rattle.residuals.proofs.components.corrections_of.Goals as goal

pub loop-q-init : goal.loop-q-init
loop-q-init c = starts (pos 0) 96 _ _ (search rules)

pub offset_bounds-x-k : goal.offset_bounds-x-k
offset_bounds-x-k c =
    let below : (q : ℕ) → q < 96 → get_or c.numbers_of-number.result q 0 < length c.args.x.now = λ q h. rw (c.numbers_of-number.ensures, get_d_tabulate 96 (unknown_index c.args.stations) q 0 h, c.requires.1.long) (unknown_index_below c.args.stations q h c.requires.0) in
    let k = below c.loop-q.q (omega (arith, c.loop-q-test.true)) in omega (arith, k, c.well_formed.1.0)

pub bounds-x-k : goal.bounds-x-k
bounds-x-k c =
    let below : (q : ℕ) → q < 96 → get_or c.numbers_of-number.result q 0 < length c.args.x.now = λ q h. rw (c.numbers_of-number.ensures, get_d_tabulate 96 (unknown_index c.args.stations) q 0 h, c.requires.1.long) (unknown_index_below c.args.stations q h c.requires.0) in
    below c.loop-q.q (omega (arith, c.loop-q-test.true))

pub overflow_mul-out : goal.overflow_mul-out
overflow_mul-out c =
    let bits : (q : ℕ) → q < 96 → nat_abs (get_or c.unknowns_of-unknown.result q (pos 0)) ≤ 1 = λ q h. rw (c.unknowns_of-unknown.ensures, get_d_tabulate 96 (λ i. pos (unknown c.args.stations i)) q (pos 0) h) (unknown-bit c.args.stations q) in
    let b = bits c.loop-q.q (omega (arith, c.loop-q-test.true)) in let v = c.requires.1.bound (get_or c.numbers_of-number.result c.loop-q.q 0) in
    fit (search code_bounds depth 20) tt

pub loop-q-preserved : goal.loop-q-preserved
loop-q-preserved c =
    let bits : (q : ℕ) → q < 96 → nat_abs (get_or c.unknowns_of-unknown.result q (pos 0)) ≤ 1 = λ q h. rw (c.unknowns_of-unknown.ensures, get_d_tabulate 96 (λ i. pos (unknown c.args.stations i)) q (pos 0) h) (unknown-bit c.args.stations q) in
    let b = bits c.loop-q.q (omega (arith, c.loop-q-test.true)) in let v = c.requires.1.bound (get_or c.numbers_of-number.result c.loop-q.q 0) in
    goes_on (pos 0) 96 _ _ c.loop-q.out c.loop-q.q _ (omega (arith, c.loop-q-test.true)) c.loop-q.invariant
    (ringm (get_or c.unknowns_of-unknown.result c.loop-q.q (pos 0) ∷ get_or c.args.x.now (get_or c.numbers_of-number.result c.loop-q.q 0) (pos 0) ∷ []) (search code_shapes depth 20) tt)

pub returns : goal.returns
returns c =
    finish (pos 0) 96 _ _ c.loop-q.out c.loop-q.q (omega arith) c.loop-q.invariant
    ∙ tabulate-ext 96 _ (correction c.args.stations c.args.x.now) (pos 0) (λ q h. rw (c.unknowns_of-unknown.ensures, c.numbers_of-number.ensures) (correction_in c.args.stations c.args.x.now q h))
