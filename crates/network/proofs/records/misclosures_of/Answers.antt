-- `misclosures_of`: each misclosure is `misclosure_in` of the record's ends and reduced value in its component. Assumes nothing.
use Prim.Native.Nat.{ℕ, ◌<◌, ◌≤◌}
use mathlib.Core.Path.{◌≡◌, refl, sym, ap, ap₂, subst}
use mathlib.Core.List.{List, ◌∷◌}
use lib.Dec.{lit<}
use lib.IntN.{ℤ, pos, nat_abs}
use lib.ListN.{get_or}
use Rattle.lists.specs.Stored.{stored, kept}
use Rattle.network.specs.Records.{from_of, to_of, joins, joins-one, reduced, misclosures}
use Rattle.network.specs.Ranges.{values-small}
use Rattle.network.proofs.Differences.{told}
use Rattle.network.proofs.records.misclosures_of.Goals as goal

pub misclosure-x-requires : goal.misclosure-x-requires
misclosure-x-requires c =
    let joins-is : c.joins_of-g.result ≡ joins c.args.r = c.joins_of-g.ensures in
    let joins-low : nat_abs (stored c.joins_of-g.result) ≤ 1 = kept c.joins_of-g.result (subst (λ (z : ℤ). nat_abs z ≤ 1) (sym joins-is) (joins-one c.args.r)) tt in
    let value-is : (a : ℕ) → get_or c.reduced_of-d.result a (pos 0) ≡ get_or (reduced c.args.r) a (pos 0) = λ a. ap (λ (l : List ℤ). get_or l a (pos 0)) c.reduced_of-d.ensures in
    let value-small : (a : ℕ) → nat_abs (stored (get_or c.reduced_of-d.result a (pos 0))) ≤ 1000000000 = λ a. kept (get_or c.reduced_of-d.result a (pos 0)) (subst (λ (z : ℤ). nat_abs z ≤ 1000000000) (sym (value-is a)) (values-small c.args.r c.requires.values a)) tt in
    let from_is : c.from_of-f.result ≡ from_of c.args.r = c.from_of-f.ensures in
    let from_low : c.from_of-f.result < 32 = subst (λ (k : ℕ). k < 32) (sym from_is) c.requires.from in
    let to_is : c.to_of-t.result ≡ to_of c.args.r = c.to_of-t.ensures in
    let to_low : c.to_of-t.result < 32 = subst (λ (k : ℕ). k < 32) (sym to_is) c.requires.to in
    (from_low, to_low, joins-low, lit< tt, value-small 0, c.requires.provisional)

pub misclosure-y-requires : goal.misclosure-y-requires
misclosure-y-requires c =
    let joins-is : c.joins_of-g.result ≡ joins c.args.r = c.joins_of-g.ensures in
    let joins-low : nat_abs (stored c.joins_of-g.result) ≤ 1 = kept c.joins_of-g.result (subst (λ (z : ℤ). nat_abs z ≤ 1) (sym joins-is) (joins-one c.args.r)) tt in
    let value-is : (a : ℕ) → get_or c.reduced_of-d.result a (pos 0) ≡ get_or (reduced c.args.r) a (pos 0) = λ a. ap (λ (l : List ℤ). get_or l a (pos 0)) c.reduced_of-d.ensures in
    let value-small : (a : ℕ) → nat_abs (stored (get_or c.reduced_of-d.result a (pos 0))) ≤ 1000000000 = λ a. kept (get_or c.reduced_of-d.result a (pos 0)) (subst (λ (z : ℤ). nat_abs z ≤ 1000000000) (sym (value-is a)) (values-small c.args.r c.requires.values a)) tt in
    let from_is : c.from_of-f.result ≡ from_of c.args.r = c.from_of-f.ensures in
    let from_low : c.from_of-f.result < 32 = subst (λ (k : ℕ). k < 32) (sym from_is) c.requires.from in
    let to_is : c.to_of-t.result ≡ to_of c.args.r = c.to_of-t.ensures in
    let to_low : c.to_of-t.result < 32 = subst (λ (k : ℕ). k < 32) (sym to_is) c.requires.to in
    (from_low, to_low, joins-low, lit< tt, value-small 1, c.requires.provisional)

pub misclosure-z-requires : goal.misclosure-z-requires
misclosure-z-requires c =
    let joins-is : c.joins_of-g.result ≡ joins c.args.r = c.joins_of-g.ensures in
    let joins-low : nat_abs (stored c.joins_of-g.result) ≤ 1 = kept c.joins_of-g.result (subst (λ (z : ℤ). nat_abs z ≤ 1) (sym joins-is) (joins-one c.args.r)) tt in
    let value-is : (a : ℕ) → get_or c.reduced_of-d.result a (pos 0) ≡ get_or (reduced c.args.r) a (pos 0) = λ a. ap (λ (l : List ℤ). get_or l a (pos 0)) c.reduced_of-d.ensures in
    let value-small : (a : ℕ) → nat_abs (stored (get_or c.reduced_of-d.result a (pos 0))) ≤ 1000000000 = λ a. kept (get_or c.reduced_of-d.result a (pos 0)) (subst (λ (z : ℤ). nat_abs z ≤ 1000000000) (sym (value-is a)) (values-small c.args.r c.requires.values a)) tt in
    let from_is : c.from_of-f.result ≡ from_of c.args.r = c.from_of-f.ensures in
    let from_low : c.from_of-f.result < 32 = subst (λ (k : ℕ). k < 32) (sym from_is) c.requires.from in
    let to_is : c.to_of-t.result ≡ to_of c.args.r = c.to_of-t.ensures in
    let to_low : c.to_of-t.result < 32 = subst (λ (k : ℕ). k < 32) (sym to_is) c.requires.to in
    (from_low, to_low, joins-low, lit< tt, value-small 2, c.requires.provisional)

pub returns : goal.returns
unfolding misclosures
returns c =
    let from_is : c.from_of-f.result ≡ from_of c.args.r = c.from_of-f.ensures in
    let to_is : c.to_of-t.result ≡ to_of c.args.r = c.to_of-t.ensures in
    let joins-is : c.joins_of-g.result ≡ joins c.args.r = c.joins_of-g.ensures in
    let value-is : (a : ℕ) → get_or c.reduced_of-d.result a (pos 0) ≡ get_or (reduced c.args.r) a (pos 0) = λ a. ap (λ (l : List ℤ). get_or l a (pos 0)) c.reduced_of-d.ensures in
    let k = c.args.coordinate.now in
    let r = c.args.r in
    ap₂ ◌∷◌ (told k r c.requires 0 _ _ _ _ _ _ c.misclosure-x.ensures from_is to_is joins-is c.acts_in-e.ensures (value-is 0))
    (ap₂ ◌∷◌ (told k r c.requires 1 _ _ _ _ _ _ c.misclosure-y.ensures from_is to_is joins-is c.acts_in-n.ensures (value-is 1))
    (ap₂ ◌∷◌ (told k r c.requires 2 _ _ _ _ _ _ c.misclosure-z.ensures from_is to_is joins-is c.acts_in-u.ensures (value-is 2)) refl))
