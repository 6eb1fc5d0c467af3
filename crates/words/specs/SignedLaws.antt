-- Laws of the signed helpers: `eq_z` is equality, the size of a number between limits, `index_in` is an index exactly of 1 to n, and
-- `signed` and `unsigned` undo each other. Assumes nothing.
use Rattle.std.specs.Prelude.{◌≡◌, refl, true, false, cond, ◌&&◌, ℕ, zero, suc, ◌-◌, ◌<◌, ◌≤◌, ◌^◌, ltb, ℤ, pos, negsuc, nat_abs}
use Rattle.std.proofs.Common.{ap, arith, lt_irrefl, eqb-true, eq-eqb, lt-ltb, le-ltb, leb-true, le-leb, SFits}
use Rattle.std.proofs.Math.Decide.{dec_lt}
use Rattle.std.specs.Int.Signed.{le_z}
use Rattle.std.proofs.lemmas.Bool.{lt-leb}
use Rattle.std.specs.Int.{w64}
use Rattle.words.specs.Bools.{clash, and_right}
use Rattle.words.specs.Signed.{eq_z, index_in, signed, unsigned}

-- ---- equality
pub eq_z_true : (a b : ℤ) → eq_z a b ≡ true → a ≡ b
eq_z_true (pos a) (pos b) e = ap pos (eqb-true a b e)
eq_z_true (pos a) (negsuc b) e = clash e refl
eq_z_true (negsuc a) (pos b) e = clash e refl
eq_z_true (negsuc a) (negsuc b) e = ap negsuc (eqb-true a b e)

eq_z_refl : (a : ℤ) → eq_z a a ≡ true
eq_z_refl (pos a) = eq-eqb a a refl
eq_z_refl (negsuc a) = eq-eqb a a refl

pub eq-eq_z : (a b : ℤ) → a ≡ b → eq_z a b ≡ true
eq-eq_z a b e = rw e (eq_z_refl b)

pub eq_z_false : (a b : ℤ) → eq_z a b ≡ false → a ≡ b → ⊥
eq_z_false a b e p = clash (eq-eq_z a b p) e

-- ---- sizes
-- of a number from k to most
pub between-size : (k most : ℕ) (v : ℤ) → le_z (pos k) v && le_z v (pos most) ≡ true → nat_abs v ≤ most
between-size k most (pos n) e = leb-true n most (and_right (le_z (pos k) (pos n)) (le_z (pos n) (pos most)) e)
between-size k most (negsuc n) e = clash e refl

-- ---- a number in a list
pub index_suc : (k n : ℕ) → k < n → index_in (pos (suc k)) n ≡ k
unfolding index_in
index_suc k n h = rw (lt-ltb k n h)

pub index_beyond : (k n : ℕ) → n ≤ k → index_in (pos (suc k)) n ≡ n
unfolding index_in
index_beyond k n h = rw (le-ltb k n h)

-- index_in v n is below n exactly where v is 1 to n
pub index_test : (v : ℤ) (n : ℕ) → ltb (index_in v n) n ≡ (le_z (pos 1) v && le_z v (pos n))
unfolding index_in
index_test (pos zero) n = le-ltb n n (omega arith)
index_test (pos (suc k)) n = by (dec_lt k n)
  where
    by : Dec (k < n) → ltb (index_in (pos (suc k)) n) n ≡ (le_z (pos 1) (pos (suc k)) && le_z (pos (suc k)) (pos n))
    by (yes h) = rw (index_suc k n h, lt-ltb k n h, le-leb 1 (suc k) (omega arith))
    by (no h) = rw (index_beyond k n (omega arith), le-ltb n n (omega arith), le-leb 1 (suc k) (omega arith), lt-leb (suc k) n (omega arith))
index_test (negsuc k) n = le-ltb n n (omega arith)

-- where it is below n, v is the number of that index
pub index_number : (v : ℤ) (n : ℕ) → index_in v n < n → v ≡ pos (suc (index_in v n))
unfolding index_in
index_number (pos zero) n h = absurd (lt_irrefl n h)
index_number (pos (suc k)) n h = by (dec_lt k n)
  where
    by : Dec (k < n) → pos (suc k) ≡ pos (suc (cond (ltb k n) k n))
    by (yes l) = rw (lt-ltb k n l)
    by (no l) = absurd (lt_irrefl n (rw (le-ltb k n (omega arith)) at h))
index_number (negsuc k) n h = absurd (lt_irrefl n h)

-- ---- two's complement
pub unsigned-lt : (v : ℤ) → SFits w64 v → unsigned v < 2 ^ 64
unsigned-lt (pos n) f = let h : n < 2 ^ 63 = f.sfits in omega arith
unsigned-lt (negsuc k) f = omega arith

pub signed-unsigned : (v : ℤ) → SFits w64 v → signed (unsigned v) ≡ v
signed-unsigned (pos n) f = rw (lt-ltb n (2 ^ 63) f.sfits)
signed-unsigned (negsuc k) f =
    let h : k < 2 ^ 63 = f.sfits in
    let e : 2 ^ 64 - suc (2 ^ 64 - suc k) ≡ k = omega arith in
    rw (le-ltb (2 ^ 64 - suc k) (2 ^ 63) (omega arith)) (ap negsuc e)

pub unsigned_signed : (n : ℕ) → n < 2 ^ 64 → unsigned (signed n) ≡ n
unsigned_signed n h = by (dec_lt n (2 ^ 63))
  where
    by : Dec (n < 2 ^ 63) → unsigned (signed n) ≡ n
    by (yes l) = rw (lt-ltb n (2 ^ 63) l)
    by (no l) = rw (le-ltb n (2 ^ 63) (omega arith)) (omega arith)

pub signed-fits : (n : ℕ) → n < 2 ^ 64 → SFits w64 (signed n)
signed-fits n h = by (dec_lt n (2 ^ 63))
  where
    by : Dec (n < 2 ^ 63) → SFits w64 (signed n)
    by (yes l) = rw (lt-ltb n (2 ^ 63) l) (record { sfits = l })
    by (no l) = rw (le-ltb n (2 ^ 63) (omega arith)) (record { sfits = omega arith })
