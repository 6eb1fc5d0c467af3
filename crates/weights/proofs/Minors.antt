-- What the code computes of a weight matrix, in machine integers: minors of two rows, the determinant from three of them, and 16 times it.
use Prim.Native.Nat.{◌≤◌}
use mathlib.Core.Path.{◌≡◌, ◌∙◌}
use mathlib.Core.List.{[], ◌∷◌}
use lib.IntN.{ℤ, pos, nat_abs, ◌+ℤ◌, ◌-ℤ◌, ◌*ℤ◌}
use Rattle.integers.specs.Code.{ringm, code_shapes}
use Rattle.lists.specs.Stored.{stored, back}
use Rattle.weights.specs.Ranges.{minor_small}

-- the minor r that a call gave of entries in range
module _ (a b c d r : ℤ) (e : r ≡ stored a *ℤ stored b -ℤ stored c *ℤ stored d)
    (ha : nat_abs a ≤ 10000) (hb : nat_abs b ≤ 10000) (hc : nat_abs c ≤ 10000) (hd : nat_abs d ≤ 10000) where
  pub minor_is : r ≡ a *ℤ b -ℤ c *ℤ d
  minor_is = e ∙ rw (back a ha tt, back b hb tt, back c hc tt, back d hd tt)

  pub minor_size : nat_abs r ≤ 200000000
  minor_size = rw minor_is (minor_small a b c d ha hb hc hd)

-- a·x − b·y + c·z of such minors
module _ (a b c x y z : ℤ) (ha : nat_abs a ≤ 10000) (hb : nat_abs b ≤ 10000) (hc : nat_abs c ≤ 10000)
    (hx : nat_abs x ≤ 200000000) (hy : nat_abs y ≤ 200000000) (hz : nat_abs z ≤ 200000000) where
  pub determinant-is : {x' y' z' : ℤ} → x ≡ x' → y ≡ y' → z ≡ z'
      → stored (stored (stored (stored a *ℤ stored x) -ℤ stored (stored b *ℤ stored y)) +ℤ stored (stored c *ℤ stored z)) ≡ a *ℤ x' -ℤ b *ℤ y' +ℤ c *ℤ z'
  determinant-is p q r =
      let e : stored (stored (stored (stored a *ℤ stored x) -ℤ stored (stored b *ℤ stored y)) +ℤ stored (stored c *ℤ stored z)) ≡ a *ℤ x -ℤ b *ℤ y +ℤ c *ℤ z =
      ringm (a ∷ b ∷ c ∷ x ∷ y ∷ z ∷ []) (search code_shapes depth 16) tt in
      e ∙ rw (p, q, r)

-- 16·d
pub most_is : (d : ℤ) → nat_abs d ≤ 6000000000000 → stored (pos 16 *ℤ stored d) ≡ pos 16 *ℤ d
most_is d h = ringm (d ∷ []) (search code_shapes depth 12) tt
