-- What the code computes of a misclosure and of a reduced difference, in machine integers.
use Prim.Native.Nat.{ℕ, ◌≤◌}
use mathlib.Core.Path.{◌≡◌, refl, ap, ◌∙◌}
use mathlib.Core.Bool.{Bool, cond}
use mathlib.Core.List.{List, [], ◌∷◌}
use lib.ListN.{get_or}
use lib.IntN.{ℤ, pos, nat_abs, ◌+ℤ◌, ◌-ℤ◌, ◌*ℤ◌}
use Rattle.integers.specs.Code.{ringm, code_shapes}
use Rattle.lists.specs.Stored.{stored, back}
use Rattle.network.specs.declared.Record.{Record}
use Rattle.network.specs.Records.{acts, from_of, to_of, joins, joins-one, reduced, misclosure_at, misclosure_in}
use Rattle.network.specs.Ranges.{values-small}
use Rattle.network.specs.RecordLaws.{Observed, misclosure_small}

pub difference : (o x j y : ℤ) → nat_abs o ≤ 1000000000 → nat_abs x ≤ 500000000 → nat_abs j ≤ 1 → nat_abs y ≤ 500000000
    → stored (stored o -ℤ stored (stored x -ℤ stored (stored j *ℤ stored y))) ≡ o -ℤ (x -ℤ j *ℤ y)
difference o x j y ho hx hj hy = ringm (o ∷ x ∷ j ∷ y ∷ []) (search code_shapes depth 16) tt

-- and of a U difference reduced from antennas to marks
pub reduction : (u h k : ℤ) → nat_abs u ≤ 1000000000 → nat_abs h ≤ 300000 → nat_abs k ≤ 300000 → stored (stored (stored u +ℤ stored h) -ℤ stored k) ≡ u +ℤ h -ℤ k
reduction u h k hu hh hk = ringm (u ∷ h ∷ k ∷ []) (search code_shapes depth 16) tt

-- the misclosure that a call gave, stored and read again: of the record r in component a, between the stations i and j that the code has for its ends, with its g for joins
pub told : (k : List ℤ) (r : Record) (o : Observed k r) (a i j : ℕ) (g : ℤ) (t : Bool) (v y : ℤ)
    → y ≡ cond t (misclosure_at k i j (stored g) a (stored v)) (pos 0) → i ≡ from_of r → j ≡ to_of r → g ≡ joins r → t ≡ acts a r → v ≡ get_or (reduced r) a (pos 0)
    → stored y ≡ misclosure_in k r a
unfolding misclosure_in
told k r o a i j g t v y e p q b n m =
    let h : stored g ≡ joins r = ap stored b ∙ back (joins r) (joins-one r) tt in
    let s : stored v ≡ get_or (reduced r) a (pos 0) = ap stored m ∙ back (get_or (reduced r) a (pos 0)) (values-small r o.values a) tt in
    let z : y ≡ misclosure_in k r a = e ∙ rw (p, q, h, n, s) refl in
    ap stored z ∙ back (misclosure_in k r a) (misclosure_small k r o a) tt
