-- What the equations of one record add to N and u, as terms, each an amount at one entry: one for N for each pair of ends, and one for u for each end. Entries are
-- counted through N, by rows, and on through u. Assumes nothing.
use Rattle.std.specs.Prelude.{ℕ, ◌+◌, ◌*◌, ◌%◌, ◌<◌, ◌≤◌, ◌≡◌, ℤ, pos, nat_abs, ◌*ℤ◌}
use Rattle.std.proofs.Common.{sym, ◌∙◌, le_trans, mul-le-mul_right}
use Rattle.std.proofs.Math.Path.{ap, ap₂}
use native.Mathlib.Omega.{arith}
use Rattle.std.proofs.Math.Decide.{ℕ_discrete}
use Rattle.std.proofs.Math.IntN.{◌+ℤ◌, *ℤ-zero, +ℤ_idl, +ℤ_idr}
use Rattle.integers.specs.Bounds.{bounds, absle}
use Rattle.integers.specs.Sums.{sum, sum-ext, sum_0, abs-sum-const, δ, δ-same, δ_other}
use Rattle.normals.specs.declared.Equation.{Equation}
use Rattle.normals.specs.declared.ShareTerm.{ShareTerm}
use Rattle.normals.specs.Equations.{EquationInRange, at_of, coef_of, pair_n, row_n, block_n, weighted, block_u}
use Rattle.normals.specs.EquationSizes.{abs-δ, pair_size, weighted-size}

-- ends e and f, at their entry of N
abbrev pub pair_term : Equation → ℕ → ℕ → ShareTerm
pair_term q e f = record { entry = at_of q e * 48 + at_of q f; amount = pair_n q e f }

-- end e, at its entry of u
abbrev pub end_term : Equation → ℕ → ShareTerm
end_term q e = record { entry = 2304 + at_of q e; amount = coef_of q e *ℤ weighted q (e % 3) }

-- ════ what they add at index k of a list in which N, and behind it u, stand from index `at` on
-- end e with each of the first m ends
abbrev pub pairs_from : ℕ → Equation → ℕ → ℕ → ℕ → ℤ
pairs_from at q e m k = sum m (λ f. pair_n q e f *ℤ δ (at + (at_of q e * 48 + at_of q f)) k)

-- the first m ends with each of the six
abbrev pub rows_from : ℕ → Equation → ℕ → ℕ → ℤ
rows_from at q m k = sum m (λ e. pairs_from at q e 6 k)

-- the first m ends, for u
abbrev pub ends_from : ℕ → Equation → ℕ → ℕ → ℤ
ends_from at q m k = sum m (λ e. coef_of q e *ℤ weighted q (e % 3) *ℤ δ (at + (2304 + at_of q e)) k)

-- all of them
unfoldable pub share_from : ℕ → Equation → ℕ → ℤ
share_from at q k = rows_from at q 6 k +ℤ ends_from at q 6 k

-- ════ sizes
module _ (at : ℕ) (q : Equation) (h : EquationInRange q) where
  pub pairs_size : (e m k : ℕ) → m ≤ 6 → nat_abs (pairs_from at q e m k) ≤ 60000
  pairs_size e m k l =
      le_trans
      (abs-sum-const m _ 10000 (λ f r. let a = pair_size q h e f in let b = abs-δ (at + (at_of q e * 48 + at_of q f)) k in
      absle (pair_n q e f *ℤ δ (at + (at_of q e * 48 + at_of q f)) k) (search bounds) (omega arith)))
      (mul-le-mul_right 10000 l)

  pub rows_from-size : (m k : ℕ) → m ≤ 6 → nat_abs (rows_from at q m k) ≤ 360000
  rows_from-size m k l = le_trans (abs-sum-const m _ 60000 (λ e r. pairs_size e 6 k (omega arith))) (mul-le-mul_right 60000 l)

  pub ends_size : (m k : ℕ) → m ≤ 6 → nat_abs (ends_from at q m k) ≤ 18000000000
  ends_size m k l =
      le_trans
      (abs-sum-const m _ 3000000000 (λ e r. let a = h.units e in let b = weighted-size q h (e % 3) in let d = abs-δ (at + (2304 + at_of q e)) k in
      absle (coef_of q e *ℤ weighted q (e % 3) *ℤ δ (at + (2304 + at_of q e)) k) (search bounds depth 8) (omega arith)))
      (mul-le-mul_right 3000000000 l)

  pub share_size : (k : ℕ) → nat_abs (share_from at q k) ≤ 18000360000
  unfolding share_from
  share_size k = let a = rows_from-size 6 k (omega arith) in let b = ends_size 6 k (omega arith) in absle (rows_from at q 6 k +ℤ ends_from at q 6 k) (search bounds) (omega arith)

-- ════ together they are the share
δ_from : (at i k : ℕ) → δ (at + i) (at + k) ≡ δ i k
δ_from at i k = go (ℕ_discrete i k)
  where
    go : Dec (i ≡ k) → δ (at + i) (at + k) ≡ δ i k
    go (yes e) = ap (λ (j : ℕ). δ (at + j) (at + k)) e ∙ δ-same (at + k) ∙ sym (ap (λ (j : ℕ). δ j k) e ∙ δ-same k)
    go (no e) = δ_other (at + i) (at + k) (λ g. e (omega arith)) ∙ sym (δ_other i k e)

nothing : (a : ℤ) (i k : ℕ) → (i ≡ k → ⊥) → a *ℤ δ i k ≡ pos 0
nothing a i k d = ap (λ (z : ℤ). a *ℤ z) (δ_other i k d) ∙ *ℤ-zero a

module _ (at : ℕ) (q : Equation) (h : EquationInRange q) where
  -- no pair stands at k
  no_rows : (k : ℕ) → ((e f : ℕ) → at + (at_of q e * 48 + at_of q f) ≡ k → ⊥) → rows_from at q 6 k ≡ pos 0
  no_rows k d = sum-ext 6 (λ e r. sum-ext 6 (λ f o. nothing (pair_n q e f) _ k (d e f)) ∙ sum_0 6) ∙ sum_0 6

  no_ends : (k : ℕ) → ((e : ℕ) → at + (2304 + at_of q e) ≡ k → ⊥) → ends_from at q 6 k ≡ pos 0
  no_ends k d = sum-ext 6 (λ e r. nothing (coef_of q e *ℤ weighted q (e % 3)) _ k (d e)) ∙ sum_0 6

  pub share_before : (k : ℕ) → k < at → share_from at q k ≡ pos 0
  unfolding share_from
  share_before k l = ap₂ ◌+ℤ◌ (no_rows k (λ e f p. omega arith)) (no_ends k (λ e p. omega arith))

  pub share_N : (k : ℕ) → k < 2304 → share_from at q (at + k) ≡ block_n q k
  unfolding share_from block_n row_n
  share_N k l =
      ap₂ ◌+ℤ◌ (sum-ext 6 (λ e r. sum-ext 6 (λ f o. ap (λ (z : ℤ). pair_n q e f *ℤ z) (δ_from at (at_of q e * 48 + at_of q f) k)))) (no_ends (at + k) (λ e p. omega arith))
      ∙ +ℤ_idr _

  pub share_u_lem : (k : ℕ) → share_from at q (at + 2304 + k) ≡ block_u q k
  unfolding share_from block_u
  share_u_lem k =
      ap₂ ◌+ℤ◌ (no_rows (at + 2304 + k) (λ e f p. let a = h.ends e in let b = h.ends f in omega arith))
      (sum-ext 6 (λ e r. ap (λ (z : ℤ). coef_of q e *ℤ weighted q (e % 3) *ℤ z)
      (ap (λ (j : ℕ). δ j (at + 2304 + k)) (let i : at + (2304 + at_of q e) ≡ at + 2304 + at_of q e = omega arith in i) ∙ δ_from (at + 2304) (at_of q e) k)))
      ∙ +ℤ_idl _
