-- The ways through `index_in`: 1 to n, and every other number. Assumes nothing.
use Rattle.std.proofs.Common.{◌≡◌, refl, sym, ◌∙◌, ℕ, zero, suc, ◌-◌, ◌<◌, ◌≤◌, ◌^◌, Result, Ok, Err, ℤ, pos, negsuc, nat_abs, arith, SFits}
use Rattle.std.specs.Result.{OkIff, result_unwrap_or}
use Rattle.std.specs.Int.{FitsUnsignedBits, w64}
use Rattle.words.specs.Signed.{index_in}
use Rattle.words.specs.SignedLaws.{index_suc, index_beyond}

-- k is v as an unsigned number, and 0 where v is negative
abbrev pub Number : ℤ → ℕ → Type 0
Number (pos n) k = k ≡ n
Number (negsuc n) k = k ≡ 0

pub number : {E : Type 0} (r : Result ℕ E) (v : ℤ) (k : ℕ) → SFits w64 v → OkIff r (FitsUnsignedBits 64 v) (nat_abs v) → k ≡ result_unwrap_or r 0 → Number v k
number (Ok x) (pos n) k f h e = e ∙ h.1
number (Ok x) (negsuc n) k f h e = absurd h.0
number (Err d) (pos n) k f h e = let g : n < 2 ^ 63 = f.sfits in absurd (h (omega arith))
number (Err d) (negsuc n) k f h e = e

pub inside : (v : ℤ) (n k : ℕ) → Number v k → 1 ≤ k → k ≤ n → k - 1 ≡ index_in v n
inside (pos zero) n k m g h = absurd (omega arith)
inside (pos (suc j)) n k m g h = let q : k - 1 ≡ j = omega arith in q ∙ sym (index_suc j n (omega arith))
inside (negsuc j) n k m g h = absurd (omega arith)

pub no_number : (v : ℤ) (n k : ℕ) → Number v k → k ≡ 0 → n ≡ index_in v n
unfolding index_in
no_number (pos zero) n k m h = refl
no_number (pos (suc j)) n k m h = absurd (omega arith)
no_number (negsuc j) n k m h = refl

pub beyond : (v : ℤ) (n k : ℕ) → Number v k → n < k → n ≡ index_in v n
unfolding index_in
beyond (pos zero) n k m h = refl
beyond (pos (suc j)) n k m h = sym (index_beyond j n (omega arith))
beyond (negsuc j) n k m h = refl
