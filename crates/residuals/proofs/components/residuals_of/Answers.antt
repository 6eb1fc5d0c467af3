-- Each residual is what its call of `residual` ensures, over the record's misclosures, ends and joins; its size reads it back from its bits (`component`). Assumes nothing.
use native.Mathlib.Omega.{arith}
use Prim.Native.Nat.{ℕ, ◌+◌, ◌*◌, ◌≤◌}
use mathlib.Core.Path.{◌≡◌, ap, ◌∙◌}
use mathlib.Core.List.{List}
use lib.ListN.{get_or}
use lib.IntN.{ℤ, pos, nat_abs, ◌-ℤ◌, ◌*ℤ◌}
use Rattle.network.specs.Records.{from_of, to_of, joins, joins-one, misclosures}
use Rattle.lists.specs.Stored.{stored, back, kept}
use Rattle.network.specs.declared.Record.{Record}
use Rattle.residuals.specs.Components.{residual_in, residual-size, Closes}
use Rattle.residuals.proofs.components.residuals_of.Goals as goal

-- what a call of `residual` gives is the residual
component : (coordinate corrections : List ℤ) (r : Record) (w : Closes coordinate corrections r) (a : ℕ) (m : List ℤ) (t f : ℕ) (j v : ℤ)
    → m ≡ misclosures coordinate r → t ≡ to_of r → f ≡ from_of r → j ≡ joins r
    → v ≡ stored (get_or m a (pos 0)) -ℤ (get_or corrections (t * 3 + a) (pos 0) -ℤ stored j *ℤ get_or corrections (f * 3 + a) (pos 0))
    → stored v ≡ residual_in coordinate corrections r a
unfolding residual_in
component coordinate corrections r w a m t f j v em et ef ej e =
    let q : v ≡ residual_in coordinate corrections r a =
    e ∙ rw (em, et, ef, ej, back (get_or (misclosures coordinate r) a (pos 0)) (w.closes a) tt, back (joins r) (joins-one r) tt) in
    ap stored q ∙ back (residual_in coordinate corrections r a) (residual-size coordinate corrections r w a) tt

pub residual-x-requires : goal.residual-x-requires
residual-x-requires c =
    let value : (a : ℕ) → nat_abs (stored (get_or c.misclosures_of-l.result a (pos 0))) ≤ 100000 = λ a. kept (get_or c.misclosures_of-l.result a (pos 0)) (rw c.misclosures_of-l.ensures (c.requires.closes a)) tt in
    let joined : nat_abs (stored c.joins_of-j.result) ≤ 1 = kept c.joins_of-j.result (rw c.joins_of-j.ensures (joins-one c.args.r)) tt in
    let ht = c.requires.observed.to in let hf = c.requires.observed.from in
    (omega (arith, c.to_of-t.ensures), omega (arith, c.from_of-f.ensures), omega arith, value 0, joined, c.requires.moved)

pub residual-y-requires : goal.residual-y-requires
residual-y-requires c =
    let value : (a : ℕ) → nat_abs (stored (get_or c.misclosures_of-l.result a (pos 0))) ≤ 100000 = λ a. kept (get_or c.misclosures_of-l.result a (pos 0)) (rw c.misclosures_of-l.ensures (c.requires.closes a)) tt in
    let joined : nat_abs (stored c.joins_of-j.result) ≤ 1 = kept c.joins_of-j.result (rw c.joins_of-j.ensures (joins-one c.args.r)) tt in
    let ht = c.requires.observed.to in let hf = c.requires.observed.from in
    (omega (arith, c.to_of-t.ensures), omega (arith, c.from_of-f.ensures), omega arith, value 1, joined, c.requires.moved)

pub residual-z-requires : goal.residual-z-requires
residual-z-requires c =
    let value : (a : ℕ) → nat_abs (stored (get_or c.misclosures_of-l.result a (pos 0))) ≤ 100000 = λ a. kept (get_or c.misclosures_of-l.result a (pos 0)) (rw c.misclosures_of-l.ensures (c.requires.closes a)) tt in
    let joined : nat_abs (stored c.joins_of-j.result) ≤ 1 = kept c.joins_of-j.result (rw c.joins_of-j.ensures (joins-one c.args.r)) tt in
    let ht = c.requires.observed.to in let hf = c.requires.observed.from in
    (omega (arith, c.to_of-t.ensures), omega (arith, c.from_of-f.ensures), omega arith, value 2, joined, c.requires.moved)

pub returns : goal.returns
returns c =
    let x = component c.args.coordinate.now c.args.correction.now c.args.r c.requires 0 c.misclosures_of-l.result c.to_of-t.result c.from_of-f.result c.joins_of-j.result c.residual-x.result
    c.misclosures_of-l.ensures c.to_of-t.ensures c.from_of-f.ensures c.joins_of-j.ensures c.residual-x.ensures in
    let y = component c.args.coordinate.now c.args.correction.now c.args.r c.requires 1 c.misclosures_of-l.result c.to_of-t.result c.from_of-f.result c.joins_of-j.result c.residual-y.result
    c.misclosures_of-l.ensures c.to_of-t.ensures c.from_of-f.ensures c.joins_of-j.ensures c.residual-y.ensures in
    let z = component c.args.coordinate.now c.args.correction.now c.args.r c.requires 2 c.misclosures_of-l.result c.to_of-t.result c.from_of-f.result c.joins_of-j.result c.residual-z.result
    c.misclosures_of-l.ensures c.to_of-t.ensures c.from_of-f.ensures c.joins_of-j.ensures c.residual-z.ensures in
    rw (x, y, z)
