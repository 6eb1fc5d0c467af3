-- A record by the kind that the code has told apart. Assumes nothing.
use Prim.Native.Nat.{ℕ, zero, suc}
use mathlib.Core.Path.{◌≡◌, refl}
use mathlib.Core.List.{List}
use lib.IntN.{ℤ}
use Rattle.network.specs.declared.Record.TheVariants.{Empty}
use Rattle.network.specs.RecordWords.{record_of}

pub other_record : (k : ℕ) (w : List ℤ) (at : ℕ) → (k ≡ 0 → ⊥) → (k ≡ 1 → ⊥) → (k ≡ 3 → ⊥) → Empty ≡ record_of k w at
unfolding record_of
other_record zero w at x y z = absurd (x refl)
other_record (suc zero) w at x y z = absurd (y refl)
other_record (suc (suc zero)) w at x y z = refl
other_record (suc (suc (suc zero))) w at x y z = absurd (z refl)
other_record (suc (suc (suc (suc k)))) w at x y z = refl
