-- The sizes of a written list's entries. Assumes nothing.
use Rattle.std.specs.Prelude.{ℕ, zero, suc, ◌≤◌, List, [], ◌∷◌, get_or, ℤ, pos, nat_abs}
use Rattle.std.proofs.Common.{zero-le}

-- the entries of a written list, and those beyond its end
abbrev pub Small : ℕ → List ℤ → Type 0
Small B [] = Unit {0}
Small B (x ∷ xs) = (nat_abs x ≤ B) × Small B xs

pub small_at : (B : ℕ) (xs : List ℤ) → Small B xs → (k : ℕ) → nat_abs (get_or xs k (pos 0)) ≤ B
small_at B [] h k = zero-le
small_at B (x ∷ xs) h zero = h.0
small_at B (x ∷ xs) h (suc k) = small_at B xs h.1 k
