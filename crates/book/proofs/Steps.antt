-- What the code's branches say in the words of the table. Assumes nothing.
use Prim.Native.Nat.{ℕ, zero, suc}
use mathlib.Core.Path.{◌≡◌, refl, sym, ap}
use mathlib.Core.Bool.{Bool, cond}
use native.Mathlib.Omega.{arith}
use lib.IntN.{ℤ}
use Rattle.network.specs.Rules.{in_list}
use Rattle.book.specs.Calls.{first, place_no}

pub first_next : (a b : ℕ) → a ≡ 0 → b ≡ first a b
unfolding first
first_next zero b e = refl
first_next (suc a) b e = absurd (let z : suc a ≡ 0 = e in omega arith)

pub first_this : (a b : ℕ) → (a ≡ 0 → ⊥) → a ≡ first a b
unfolding first
first_this zero b e = absurd (e refl)
first_this (suc a) b e = refl

pub place_is : (p : ℤ) (t : Bool) → in_list 256 p ≡ t → cond t 0 2 ≡ place_no p
unfolding place_no
place_is p t e = ap (λ (b : Bool). cond b 0 2) (sym e)
