-- Sizes of what one record adds.
use Rattle.std.specs.Prelude.{ℕ, ◌+◌, ◌*◌, ◌%◌, ◌≤◌, Bool, true, false, cond, eqb, pos, nat_abs, ◌*ℤ◌}
use Rattle.std.proofs.Common.{arith, mul-le-mul_right}
use Rattle.std.proofs.Math.Nat.{le_trans}
use Rattle.integers.specs.Bounds.{bounds, absle}
use Rattle.integers.specs.Sums.{sum, δ, abs-sum-const}
use Rattle.normals.specs.declared.Equation.{Equation}
use Rattle.normals.specs.Equations.{EquationInRange, at_of, coef_of, equation_weight, misclosure_of, pair_n, row_n, block_n, weighted, block_u}

pub abs-δ : (i k : ℕ) → nat_abs (δ i k) ≤ 1
abs-δ i k = go (eqb i k)
  where
    go : (b : Bool) → nat_abs (cond b (pos 1) (pos 0)) ≤ 1
    go true = let e : 1 ≤ 1 = omega arith in e
    go false = let e : 0 ≤ 1 = omega arith in e

module _ (q : Equation) (h : EquationInRange q) where
  pub pair_size : (e f : ℕ) → nat_abs (pair_n q e f) ≤ 10000
  pair_size e f =
      let a = h.units e in let b = h.weights (e % 3 * 3 + f % 3) in let c = h.units f in
      absle (pair_n q e f) (search bounds depth 8) (omega arith)

  pub row_size : (e m k : ℕ) → m ≤ 6 → nat_abs (sum m (λ f. pair_n q e f *ℤ δ (at_of q e * 48 + at_of q f) k)) ≤ 60000
  row_size e m k l =
      le_trans
      (abs-sum-const m _ 10000 (λ f r. let a = pair_size e f in let b = abs-δ (at_of q e * 48 + at_of q f) k in
      absle (pair_n q e f *ℤ δ (at_of q e * 48 + at_of q f) k) (search bounds) (omega arith)))
      (mul-le-mul_right 10000 l)

  pub rows-size : (m k : ℕ) → m ≤ 6 → nat_abs (sum m (λ e. row_n q e k)) ≤ 360000
  unfolding row_n
  rows-size m k l =
      le_trans (abs-sum-const m _ 60000 (λ e r. row_size e 6 k (omega arith))) (mul-le-mul_right 60000 l)

  pub weighted-size : (a : ℕ) → nat_abs (weighted q a) ≤ 3000000000
  unfolding weighted
  weighted-size a =
      abs-sum-const 3 _ 1000000000 (λ b r. let x = h.weights (a * 3 + b) in let y = h.misclosures b in
      absle (equation_weight q a b *ℤ misclosure_of q b) (search bounds) (omega arith))

  pub right_size : (m k : ℕ) → m ≤ 6 → nat_abs (sum m (λ e. coef_of q e *ℤ weighted q (e % 3) *ℤ δ (at_of q e) k)) ≤ 18000000000
  right_size m k l =
      le_trans
      (abs-sum-const m _ 3000000000 (λ e r. let a = h.units e in let b = weighted-size (e % 3) in let d = abs-δ (at_of q e) k in
      absle (coef_of q e *ℤ weighted q (e % 3) *ℤ δ (at_of q e) k) (search bounds depth 8) (omega arith)))
      (mul-le-mul_right 3000000000 l)

  pub block_size : (k : ℕ) → nat_abs (block_n q k) ≤ 360000
  unfolding block_n
  block_size k = rows-size 6 k (omega arith)

  pub block_right_size : (k : ℕ) → nat_abs (block_u q k) ≤ 18000000000
  unfolding block_u
  block_right_size k = right_size 6 k (omega arith)
