-- `equation_over` puts the unknowns of both stations together; with the tables of the station list the ends come out the same. Assumes nothing.
use Prim.Native.Nat.{ℕ, ◌<◌, ◌≤◌}
use mathlib.Core.Path.{ap, ap₂, ◌∙◌}
use native.Mathlib.Omega.{arith}
use mathlib.Core.List.{List}
use lib.ListN.{get_or}
use lib.IntN.{ℤ, pos, nat_abs}
use Rattle.integers.specs.Code.{fit, code_bounds}
use Rattle.network.specs.Records.{joins-one, misclosures}
use Rattle.normals.specs.Equations.{end_indices, coefs}
use Rattle.network.specs.Stations.{unknown_table, index_table}
use Rattle.normals.proofs.StationNumbers.{unit-at, ends_are, coefs_are}
use Rattle.normals.proofs.shares.equation_over.Goals as goal

pub overflow_mul-coef : goal.overflow_mul-coef
overflow_mul-coef c =
    let joins-unit : nat_abs c.joins_of-g.result ≤ 1 = rw c.joins_of-g.ensures (joins-one c.args.r) in
    let unknown-unit : (k : ℕ) → nat_abs (get_or c.unknowns_at-f.result.unknown k (pos 0)) ≤ 1 = λ k. unit-at _ _ c.unknowns_at-f.result c.unknowns_at-f.ensures k in
    let a = joins-unit in
    let b = unknown-unit 0 in
    fit (search code_bounds depth 8) tt

pub overflow_sub-coef : goal.overflow_sub-coef
overflow_sub-coef c =
    let joins-unit : nat_abs c.joins_of-g.result ≤ 1 = rw c.joins_of-g.ensures (joins-one c.args.r) in
    let unknown-unit : (k : ℕ) → nat_abs (get_or c.unknowns_at-f.result.unknown k (pos 0)) ≤ 1 = λ k. unit-at _ _ c.unknowns_at-f.result c.unknowns_at-f.ensures k in
    let a = joins-unit in
    let b = unknown-unit 0 in
    fit (search code_bounds depth 8) tt

pub overflow_mul-coef-2 : goal.overflow_mul-coef-2
overflow_mul-coef-2 c =
    let joins-unit : nat_abs c.joins_of-g.result ≤ 1 = rw c.joins_of-g.ensures (joins-one c.args.r) in
    let unknown-unit : (k : ℕ) → nat_abs (get_or c.unknowns_at-f.result.unknown k (pos 0)) ≤ 1 = λ k. unit-at _ _ c.unknowns_at-f.result c.unknowns_at-f.ensures k in
    let a = joins-unit in
    let b = unknown-unit 1 in
    fit (search code_bounds depth 8) tt

pub overflow_sub-coef-2 : goal.overflow_sub-coef-2
overflow_sub-coef-2 c =
    let joins-unit : nat_abs c.joins_of-g.result ≤ 1 = rw c.joins_of-g.ensures (joins-one c.args.r) in
    let unknown-unit : (k : ℕ) → nat_abs (get_or c.unknowns_at-f.result.unknown k (pos 0)) ≤ 1 = λ k. unit-at _ _ c.unknowns_at-f.result c.unknowns_at-f.ensures k in
    let a = joins-unit in
    let b = unknown-unit 1 in
    fit (search code_bounds depth 8) tt

pub overflow_mul-coef-3 : goal.overflow_mul-coef-3
overflow_mul-coef-3 c =
    let joins-unit : nat_abs c.joins_of-g.result ≤ 1 = rw c.joins_of-g.ensures (joins-one c.args.r) in
    let unknown-unit : (k : ℕ) → nat_abs (get_or c.unknowns_at-f.result.unknown k (pos 0)) ≤ 1 = λ k. unit-at _ _ c.unknowns_at-f.result c.unknowns_at-f.ensures k in
    let a = joins-unit in
    let b = unknown-unit 2 in
    fit (search code_bounds depth 8) tt

pub overflow_sub-coef-3 : goal.overflow_sub-coef-3
overflow_sub-coef-3 c =
    let joins-unit : nat_abs c.joins_of-g.result ≤ 1 = rw c.joins_of-g.ensures (joins-one c.args.r) in
    let unknown-unit : (k : ℕ) → nat_abs (get_or c.unknowns_at-f.result.unknown k (pos 0)) ≤ 1 = λ k. unit-at _ _ c.unknowns_at-f.result c.unknowns_at-f.ensures k in
    let a = joins-unit in
    let b = unknown-unit 2 in
    fit (search code_bounds depth 8) tt

pub returns : goal.returns
returns c =
    let joins-unit : nat_abs c.joins_of-g.result ≤ 1 = rw c.joins_of-g.ensures (joins-one c.args.r) in
    let st = c.args.stations in
    let from = c.from_of.ensures in
    let to = c.to_of.ensures in
    let f : c.from_of.result < 32 = let h = c.requires.0.from in omega arith in
    let t : c.to_of.result < 32 = let h = c.requires.0.to in omega arith in
    let x = ends_are st _ _ f t c.unknowns_at-f.result c.unknowns_at-t.result c.unknowns_at-f.ensures c.unknowns_at-t.ensures ∙ ap₂ (end_indices (index_table st)) from to in
    let y = coefs_are st _ _ f t c.unknowns_at-f.result c.unknowns_at-t.result c.unknowns_at-f.ensures c.unknowns_at-t.ensures c.joins_of-g.result joins-unit ∙ (λ i. coefs (unknown_table st) (c.joins_of-g.ensures i) (from i) (to i)) in
    let m = c.misclosures_of-misclosure.ensures ∙ ap (λ (l : List ℤ). misclosures l c.args.r) c.requires.1 in
    λ i. record { at = x i; coef = y i; weight = c.weights_of-weight.ensures i; misclosure = m i }
