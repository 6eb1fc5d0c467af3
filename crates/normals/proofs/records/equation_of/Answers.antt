-- `equation_of` gives a record's observation equations. Assumes nothing.
use native.Mathlib.Omega.{arith}
use Prim.Native.Nat.{◌≤◌}
use mathlib.Core.Path.{◌≡◌, ap₂, ◌∙◌}
use lib.IntN.{nat_abs}
use Rattle.network.specs.Records.{from_of, to_of, joins, joins-one}
use Rattle.normals.specs.Equations.{end_indices, coefs}
use Rattle.lists.specs.Stored.{back, kept}
use Rattle.normals.proofs.records.equation_of.Goals as goal

pub ends_of-a-requires : goal.ends_of-a-requires
ends_of-a-requires c = let e = c.from_of-f.ensures in let g = c.to_of-t.ensures in let x = c.requires.0.from in let y = c.requires.0.to in (omega arith, omega arith)

pub coefs_of-c-requires : goal.coefs_of-c-requires
coefs_of-c-requires c =
    let e = c.from_of-f.ensures in let g = c.to_of-t.ensures in let x = c.requires.0.from in let y = c.requires.0.to in
    let j : nat_abs c.joins_of-g.result ≤ 1 = rw c.joins_of-g.ensures (joins-one c.args.r) in
    (omega arith, omega arith, c.requires.1, kept c.joins_of-g.result j tt)

pub misclosures_of-m-requires : goal.misclosures_of-m-requires
misclosures_of-m-requires c = c.requires.0

pub returns : goal.returns
returns c =
    let r = c.args.r in
    let e = c.from_of-f.ensures in let g = c.to_of-t.ensures in
    let j : nat_abs c.joins_of-g.result ≤ 1 = rw c.joins_of-g.ensures (joins-one r) in
    let h = back c.joins_of-g.result j tt ∙ c.joins_of-g.ensures in
    let a : c.ends_of-a.result ≡ end_indices c.args.at.now (from_of r) (to_of r) = c.ends_of-a.ensures ∙ ap₂ (end_indices c.args.at.now) e g in
    let k : c.coefs_of-c.result ≡ coefs c.args.unknown.now (joins r) (from_of r) (to_of r) = c.coefs_of-c.ensures ∙ (λ i. coefs c.args.unknown.now (h i) (e i) (g i)) in
    let w = c.weights_of-w.ensures in let m = c.misclosures_of-m.ensures in
    λ i. record { at = a i; coef = k i; weight = w i; misclosure = m i }
