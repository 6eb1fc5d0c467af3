-- What the loops of tests 5 to 7 ask of their numbers, and what `dot` gives there. Assumes nothing.
use Rattle.std.specs.Prelude.{◌≡◌, true, false, List, ℕ, ◌+◌, ◌*◌, ◌≤◌, ◌<◌, ◌^◌, leb, length, ℤ, nat_abs, ◌-ℤ◌, ◌*ℤ◌}
use Rattle.std.proofs.Common.{ap₂, mul-le-mul_right, add-mul, one-mul, add_comm, arith, le-leb, lit<, of_z, to_z, SFits}
use Rattle.std.proofs.lemmas.Bool.{lt-leb}
use Rattle.std.specs.Int.{w64}
use Rattle.std.proofs.lemmas.Int.{to_z-of_z}
use Rattle.integers.specs.Bounds.{bounds, fits, abs--}
use Rattle.integers.specs.Sums.{sum, sum_n, sum-ext, sum_n-+1, sum_n-first}
use Rattle.integers.specs.Products.{Terms, sum-size}
use Rattle.integers.specs.Tables.{Within}
use Rattle.network.specs.Units.{most_unknowns}
use Rattle.normals.specs.Formulas.{matrix_length}
use Rattle.acceptance.specs.Tests.{at, by_rows}

-- a number smaller than 2^63 in size fits 64 bits, and is what is read back
pub small-fits : (z : ℤ) → nat_abs z < 2 ^ 63 → SFits w64 z
small-fits z h = let l : nat_abs z ≤ nat_abs z = omega arith in fits (search bounds) (omega arith)

pub read_back : (z : ℤ) → nat_abs z < 2 ^ 63 → to_z w64 (of_z w64 z) ≡ z
read_back z h = to_z-of_z w64 z (small-fits z h)

-- what `dot` asks: at most 48 products of numbers of at most 2^34 and 2^23 in size. The rows of M against the columns of N, those of N against x and
-- those of M against r are all such.
pub record Factors (a : List ℤ) (row : ℕ) (b : List ℤ) (column stride n : ℕ) : Type 0 where
  pub few : n ≤ most_unknowns
  pub along : row + n ≤ length a
  pub inside : (k : ℕ) → k < n → column + k * stride < length b
  pub left : (k : ℕ) → k < n → nat_abs (at a (row + k)) ≤ 2 ^ 34
  pub right : (k : ℕ) → k < n → nat_abs (at b (column + k * stride)) ≤ 2 ^ 23

module _ {a : List ℤ} {row : ℕ} {b : List ℤ} {column stride n : ℕ} (f : Factors a row b column stride n) where
  pub factors : Terms (λ k. at a (row + k)) (λ k. at b (column + k * stride)) (2 ^ 34) (2 ^ 23) n
  factors = record { left = f.left; right = f.right; left_fits = lit< tt; right_fits = lit< tt; all_fit = let h = f.few in omega arith }

  pub dot_small : nat_abs (sum n (λ k. at a (row + k) *ℤ at b (column + k * stride))) ≤ most_unknowns * 2 ^ 57
  dot_small = let h = f.few in let s = sum-size factors n (omega arith) in omega arith

-- rows of n entries lie within n of them
pub row_next_lem : (i n : ℕ) → i * n + n ≡ (i + 1) * n
row_next_lem i n = rw (add-mul, one-mul)

pub row_end : {i n : ℕ} → i < n → i * n + n ≤ n * n
row_end {i} {n} h = rw row_next_lem (mul-le-mul_right n (let k : i + 1 ≤ n = omega arith in k))

-- ════ what the tests ask, each of those before it: the sizes of N and u are those of every sound book
-- test 5, after 1 and 4
pub record DefectRange (n : ℕ) (m normal : List ℤ) : Type 0 where
  pub few : n ≤ most_unknowns
  pub long : length m ≡ n * n
  pub inverse : (k : ℕ) → nat_abs (at m k) ≤ 2 ^ 34
  pub matrix : Within matrix_length 2560000 normal

-- test 6, after 1 and 3
pub record ResidualRange (n : ℕ) (normal right x : List ℤ) : Type 0 where
  pub few : n ≤ most_unknowns
  pub long : length x ≡ n
  pub corrections : (k : ℕ) → nat_abs (at x k) ≤ 100000
  pub matrix : Within matrix_length 2560000 normal
  pub absolute : Within most_unknowns 768000000000 right

-- test 7, after 1, 4 and 6
pub record RefinementRange (n : ℕ) (m r : List ℤ) : Type 0 where
  pub few : n ≤ most_unknowns
  pub long : length m ≡ n * n
  pub inverse : (k : ℕ) → nat_abs (at m k) ≤ 2 ^ 34
  pub room : length r ≡ most_unknowns
  pub residual : (k : ℕ) → k < n → nat_abs (at r k) ≤ 2 ^ 23

-- the first n entries of a list of 48 are f's
pub record Residuals (n : ℕ) (f : ℕ → ℤ) (l : List ℤ) : Type 0 where
  pub room : length l ≡ most_unknowns
  pub is : (k : ℕ) → k < n → at l k ≡ f k

-- ════ the factors of each
pub pair-factors : {n : ℕ} {m normal : List ℤ} → DefectRange n m normal → (row i j : ℕ) → row ≡ i * n → i < n → j < n → Factors m row normal j most_unknowns n
pair-factors {n} {m} {normal} p row i j e hi hj =
    record {
      few = p.few;
      along = let l = p.long in omega (arith, row_end hi);
      inside = λ k h. let l = p.matrix.long in let f = p.few in omega arith;
      left = λ k h. p.inverse (row + k);
      right = λ k h. let b = p.matrix.bound (j + k * most_unknowns) in omega arith;
    }

pub normal-factors : {n : ℕ} {normal right x : List ℤ} → ResidualRange n normal right x → (i : ℕ) → i < n → Factors normal (i * most_unknowns) x 0 1 n
normal-factors {n} {normal} {right} {x} p i hi =
    record {
      few = p.few;
      along = let l = p.matrix.long in let f = p.few in omega arith;
      inside = λ k h. let l = p.long in omega arith;
      left = λ k h. let b = p.matrix.bound (i * most_unknowns + k) in omega arith;
      right = λ k h. let b = p.corrections (0 + k * 1) in omega arith;
    }

pub small-factors : {n : ℕ} {m r : List ℤ} → RefinementRange n m r → (row i : ℕ) → row ≡ i * n → i < n → Factors m row r 0 1 n
small-factors {n} {m} {r} p row i e hi =
    record {
      few = p.few;
      along = let l = p.long in omega (arith, row_end hi);
      inside = λ k h. let l = p.room in let f = p.few in omega arith;
      left = λ k h. p.inverse (row + k);
      right = λ k h. let q : 0 + k * 1 ≡ k = omega arith in rw q (p.residual k h);
    }

-- ════ what `dot` gives there, in the tests' words
pub pair_dot : (n : ℕ) (m normal : List ℤ) (row i j : ℕ) → row ≡ i * n
    → sum n (λ k. at m (row + k) *ℤ at normal (j + k * most_unknowns)) ≡ sum n (λ k. by_rows n m i k *ℤ by_rows most_unknowns normal k j)
pair_dot n m normal row i j e = sum-ext n (λ k h. ap₂ (λ (a b : ℕ). at m (a + k) *ℤ at normal b) e (add_comm j (k * most_unknowns)))

one_by_one : (k : ℕ) → 0 + k * 1 ≡ k
one_by_one k = omega arith

pub vector_dot : (n : ℕ) (a b : List ℤ) (row i stride : ℕ) → row ≡ i * stride
    → sum n (λ k. at a (row + k) *ℤ at b (0 + k * 1)) ≡ sum n (λ k. by_rows stride a i k *ℤ at b k)
vector_dot n a b row i stride e = sum-ext n (λ k h. ap₂ (λ (r c : ℕ). at a (r + k) *ℤ at b c) e (one_by_one k))

-- A difference of two numbers that are small enough, as the machine reads them back.
pub record Difference (a b : ℤ) : Type 0 where
  pub fits : SFits w64 (to_z w64 (of_z w64 a) -ℤ to_z w64 (of_z w64 b))
  pub is : to_z w64 (of_z w64 (to_z w64 (of_z w64 a) -ℤ to_z w64 (of_z w64 b))) ≡ a -ℤ b
  pub small : nat_abs (a -ℤ b) ≤ nat_abs a + nat_abs b

pub difference : (a b : ℤ) → nat_abs a + nat_abs b < 2 ^ 63 → Difference a b
difference a b h =
    let s = abs-- a b in
    let d : to_z w64 (of_z w64 a) ≡ a = read_back a (omega arith) in
    let e : to_z w64 (of_z w64 b) ≡ b = read_back b (omega arith) in
    record { fits = rw (d, e) (small-fits (a -ℤ b) (omega arith)); is = rw (d, e) (read_back (a -ℤ b) (omega arith)); small = s }

-- A loop that adds f up and stops above a limit: x is the sum before j, and d the term at j.
module _ (f : ℕ → ℕ) where
  pub total-more : {j x d : ℕ} → x ≡ sum_n j f → d ≡ f j → x + d ≡ sum_n (j + 1) f
  total-more {j} {x} {d} e h = let s = sum_n-+1 j f in omega arith

  pub total_over : (limit n : ℕ) {j x : ℕ} → x ≡ sum_n (j + 1) f → j < n → limit < x → leb (sum_n n f) limit ≡ false
  total_over limit n {j} {x} e h l = let m = sum_n-first (j + 1) n f (omega arith) in lt-leb (sum_n n f) limit (omega arith)

  pub total-under : (limit n : ℕ) {j x : ℕ} → x ≡ sum_n j f → j ≡ n → x ≤ limit → leb (sum_n n f) limit ≡ true
  total-under limit n {j} {x} e h l = rw (← h, ← e) (le-leb x limit l)
