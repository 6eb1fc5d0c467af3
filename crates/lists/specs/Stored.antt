-- A signed number that code stores in 64 bits and reads again, where a bound on its size is at hand. Assumes nothing.
use Rattle.std.specs.Prelude.{ℕ, zero, suc, ◌≤◌, ◌^◌, ◌≡◌, refl, T, ltb, ℤ, pos, nat_abs}
use Rattle.std.proofs.Common.{sym, subst, arith, ltb→lt, SFits, to_z, of_z}
use Rattle.std.specs.Int.{w64}
use Rattle.std.proofs.lemmas.Int.{to_z-of_z}
use Rattle.integers.specs.Bounds.{fits}

-- what a 64-bit local gives back
abbrev pub stored : ℤ → ℤ
stored z = to_z w64 (of_z w64 z)

module _ (z : ℤ) {B : ℕ} (h : nat_abs z ≤ B) (small : T (ltb B (2 ^ 63))) where
  pub fits_by : SFits w64 z
  fits_by = fits (record { b = B; le = h }) (ltb→lt B (2 ^ 63) small)

  pub back : stored z ≡ z
  back = to_z-of_z w64 z fits_by

  pub kept : nat_abs (stored z) ≤ B
  kept = subst (λ (y : ℤ). nat_abs y ≤ B) (sym back) h

-- 0 or 1, cast to a signed number
pub bit_cast : (b : ℕ) → b ≤ 1 → to_z w64 b ≡ pos b
bit_cast zero h = refl
bit_cast (suc zero) h = refl
bit_cast (suc (suc b)) h = absurd (omega arith)
