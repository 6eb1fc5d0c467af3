-- Signed numbers: equality as a test, a number in a list as an index, and two's complement. Assumes nothing.
use Rattle.std.specs.Prelude.{ℕ, zero, suc, ◌-◌, ◌^◌, Bool, false, cond, ltb, eqb, ℤ, pos, negsuc}

-- whether a and b are the same number
abbrev pub eq_z : ℤ → ℤ → Bool
eq_z (pos a) (pos b) = eqb a b
eq_z (pos a) (negsuc b) = false
eq_z (negsuc a) (pos b) = false
eq_z (negsuc a) (negsuc b) = eqb a b

-- v − 1 where v is 1 to n, else n: the index from 0 of what is numbered v in a list of n
unfoldable pub index_in : ℤ → ℕ → ℕ
index_in (pos zero) n = n
index_in (pos (suc k)) n = cond (ltb k n) k n
index_in (negsuc k) n = n

-- the number below 2 ^ 64 whose bits are those of v
abbrev pub unsigned : ℤ → ℕ
unsigned (pos n) = n
unsigned (negsuc k) = 2 ^ 64 - suc k

-- n, below 2 ^ 64, read as two's complement
abbrev pub signed : ℕ → ℤ
signed n = cond (ltb n (2 ^ 63)) (pos n) (negsuc (2 ^ 64 - suc n))
