-- N and u as document 01 writes them, N = AᵀPA and u = AᵀPl, with the rows of all 256 places in one A, one P and one l: the sums over places are these. Assumes nothing.
use Rattle.std.specs.Prelude.{ℕ, zero, suc, ◌+◌, ◌*◌, ◌/◌, ◌%◌, ◌<◌, ◌≡◌, refl, List, [], ◌∷◌, ℤ, ◌+ℤ◌, ◌*ℤ◌}
use Rattle.std.proofs.Math.Path.{sym}
use Rattle.std.proofs.Common.{ap, ap₂, ◌∙◌, arith}
use Rattle.integers.specs.Solvers.{ring, shapes}
use Rattle.integers.specs.Sums.{sum, sum-ext, sum-*l, δ, sum-δ}
use Rattle.network.specs.Records.{l, record_at}
use Rattle.network.specs.declared.Station.{Station}
use Rattle.network.specs.declared.Place.{Place}
use Rattle.normals.specs.Formulas.{P, A, share_n, share_u, entry_n, entry_u}

-- row k is component k % 3 of the record in place k / 3
abbrev pub row_a : List Station → List Place → ℕ → ℕ → ℤ
row_a st places k i = A st (record_at places (k / 3)) (k % 3) i

abbrev pub row_l : List Station → List Place → ℕ → ℤ
row_l st places k = l st (record_at places (k / 3)) (k % 3)

-- a block for each record: no weight joins two records
abbrev pub block_p : List Place → ℕ → ℕ → ℤ
block_p places k m = δ (k / 3) (m / 3) *ℤ P (record_at places (k / 3)) (k % 3) (m % 3)

-- a sum over rows, place by place
blocks : (n : ℕ) (f : ℕ → ℕ → ℤ) → sum (n * 3) (λ k. f (k / 3) (k % 3)) ≡ sum n (λ p. sum 3 (f p))
unfolding sum
blocks zero f = refl
blocks (suc n) f =
    let e : suc n * 3 ≡ suc (suc (suc (n * 3))) = omega arith in
    ap (λ (m : ℕ). sum m (λ k. f (k / 3) (k % 3))) e
    ∙ (λ i. ((blocks n f i +ℤ row 0 (n * 3) (omega arith) (omega arith) i) +ℤ row 1 (suc (n * 3)) (omega arith) (omega arith) i) +ℤ row 2 (suc (suc (n * 3))) (omega arith) (omega arith) i)
    ∙ ring (sum n (λ p. sum 3 (f p)) ∷ f n 0 ∷ f n 1 ∷ f n 2 ∷ []) (search shapes depth 8) tt
  where
    row : (a k : ℕ) → k ≡ n * 3 + a → a < 3 → f (k / 3) (k % 3) ≡ f n a
    row a k e h = ap₂ f (omega arith) (omega arith)

-- Σ_k Σ_m x_k (δ w) y_m: only the blocks on the diagonal are left
diagonal : (n : ℕ) (x y : ℕ → ℕ → ℤ) (w : ℕ → ℕ → ℕ → ℤ)
    → sum (n * 3) (λ k. sum (n * 3) (λ m. x (k / 3) (k % 3) *ℤ (δ (k / 3) (m / 3) *ℤ w (k / 3) (k % 3) (m % 3)) *ℤ y (m / 3) (m % 3)))
    ≡ sum n (λ p. sum 3 (λ a. sum 3 (λ b. x p a *ℤ w p a b *ℤ y p b)))
diagonal n x y w =
    blocks n (λ p a. sum (n * 3) (λ m. x p a *ℤ (δ p (m / 3) *ℤ w p a (m % 3)) *ℤ y (m / 3) (m % 3)))
    ∙ sum-ext n (λ p h. sum-ext 3 (λ a o.
    blocks n (λ q b. x p a *ℤ (δ p q *ℤ w p a b) *ℤ y q b)
    ∙ sum-ext n (λ q k.
    sum-ext 3 (λ b c. ring (x p a ∷ δ p q ∷ w p a b ∷ y q b ∷ []) (search shapes depth 8) tt)
    ∙ sum-*l 3 (δ p q) (λ b. x p a *ℤ w p a b *ℤ y q b))
    ∙ sum-δ n p (λ q. sum 3 (λ b. x p a *ℤ w p a b *ℤ y q b)) h))

module _ (st : List Station) (places : List Place) (i : ℕ) where
  -- N = AᵀPA
  pub N-whole : (j : ℕ) → entry_n st places i j ≡ sum 768 (λ k. sum 768 (λ m. row_a st places k i *ℤ block_p places k m *ℤ row_a st places m j))
  unfolding entry_n share_n
  N-whole j =
      sym (diagonal 256 (λ p a. A st (record_at places p) a i) (λ p b. A st (record_at places p) b j) (λ p a b. P (record_at places p) a b))

  -- u = AᵀPl
  pub u-whole : entry_u st places i ≡ sum 768 (λ k. sum 768 (λ m. row_a st places k i *ℤ block_p places k m *ℤ row_l st places m))
  unfolding entry_u share_u
  u-whole = sym (diagonal 256 (λ p a. A st (record_at places p) a i) (λ p b. l st (record_at places p) b) (λ p a b. P (record_at places p) a b))
