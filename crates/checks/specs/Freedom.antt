-- "Degrees of freedom D = 3 per baseline + 1 per height difference − n", and 3 per position, over the records in the adjustment, are not negative where test 5 holds: they have at least as many observations
-- as there are unknowns. Assumes nothing.
-- Were there fewer, some z that is not 0 would have Az = 0, so Nz = AᵀPAz = 0: but test 5 makes N regular.
use Rattle.std.specs.Prelude.{ℕ, zero, suc, ◌+◌, ◌*◌, ◌/◌, ◌%◌, ◌<◌, ◌≤◌, ◌≡◌, refl, Bool, List, ◌⊎◌, ℤ, pos, ◌*ℤ◌, ◌≤ℤ◌}
use Rattle.std.proofs.Common.{sym, ap, ap₂, ◌∙◌, subst, inl, inr, arith}
use Rattle.std.proofs.Math.Bool.{true, false, cond}
use Rattle.std.proofs.Math.Decide.{dec_lt}
use Rattle.std.proofs.Math.IntN.{*ℤ-zero, *ℤ_comm}
use Rattle.integers.specs.Order.{≤ℤ-sub, pos_mono}
use Rattle.integers.specs.Sums.{sum, sum_n, sum-ext, sum_0, sum-*r, sum-swap, mat_assoc, sum_n-ext, sum_n_0}
use Rattle.integers.specs.Dependence.{Dependent, dependent-within}
use Rattle.words.specs.Bools.{true_or_false}
use Rattle.network.specs.Stations.{unknown_count}
use Rattle.network.specs.Records.{acts, record_at, observations, acts_of}
use Rattle.network.specs.RecordLaws.{by_observations}
use Rattle.network.specs.declared.Station.{Station}
use Rattle.network.specs.declared.Place.{Place}
use Rattle.network.specs.declared.Record.{Record}
use Rattle.normals.specs.Formulas.{A, entry_n}
use Rattle.normals.specs.Acting.{A_not_acting}
use Rattle.normals.specs.WholeMatrices.{row_a, block_p, N-whole}
use Rattle.acceptance.specs.Tests.{defect_small}
use Rattle.acceptance.specs.Kernel.{kernel}
use Rattle.residuals.specs.Residuals.{in_adjustment, share_d, D}
use Rattle.residuals.specs.CheckOnly.{check_only}

-- ════ a record's observations are the components it acts in
abbrev observes : Record → ℕ → ℕ
observes r a = cond (acts a r) 1 0

observed : (r : Record) → sum_n 3 (observes r) ≡ observations r
unfolding acts sum_n acts_of
observed r = by_observations r (λ n. sum_n 3 (λ a. cond (acts_of n a) 1 0) ≡ n) refl refl refl

module _ (st : List Station) (r : Record) where
  -- 1 where component a adds to D
  abbrev adds : ℕ → ℕ
  adds a = cond (in_adjustment st r) (observes r a) 0

  share_is : sum_n 3 adds ≡ share_d st r
  unfolding share_d
  share_is = go (in_adjustment st r)
    where
      go : (b : Bool) → sum_n 3 (λ a. cond b (observes r a) 0) ≡ cond b (observations r) 0
      go true = observed r
      go false = sum_n_0 3

  -- the others have a row of A that is 0
  not_counted : (a i : ℕ) → a < 3 → adds a ≡ 0 → A st r a i ≡ pos 0
  not_counted a i h e = go (true_or_false (in_adjustment st r)) (true_or_false (acts a r))
    where
      go : (in_adjustment st r ≡ true) ⊎ (in_adjustment st r ≡ false) → (acts a r ≡ true) ⊎ (acts a r ≡ false) → A st r a i ≡ pos 0
      go (inr out) q = (check_only st r out).coefficients a h i
      go (inl p) (inr q) = A_not_acting st r a i q
      go (inl p) (inl q) = let one : ◌≡◌ {A = ℕ} 1 0 = rw (p, q) at e in absurd (omega arith)

-- a sum over rows, place by place
sum_n-blocks : (n : ℕ) (f : ℕ → ℕ → ℕ) → sum_n (n * 3) (λ k. f (k / 3) (k % 3)) ≡ sum_n n (λ p. sum_n 3 (f p))
unfolding sum_n
sum_n-blocks zero f = refl
sum_n-blocks (suc n) f =
    let e : suc n * 3 ≡ suc (suc (suc (n * 3))) = omega arith in
    ap (λ (m : ℕ). sum_n m (λ k. f (k / 3) (k % 3))) e
    ∙ omega (arith, sum_n-blocks n f, row 0 (n * 3) (omega arith) (omega arith), row 1 (suc (n * 3)) (omega arith) (omega arith), row 2 (suc (suc (n * 3))) (omega arith) (omega arith))
  where
    row : (a k : ℕ) → k ≡ n * 3 + a → a < 3 → f (k / 3) (k % 3) ≡ f n a
    row a k e h = ap₂ f (omega arith) (omega arith)

module _ (st : List Station) (places : List Place) where
  -- 1 where row k of A is an observation's that counts
  abbrev counted : ℕ → ℕ
  counted k = adds st (record_at places (k / 3)) (k % 3)

  all_counted : sum_n 768 counted ≡ sum_n 256 (λ p. share_d st (record_at places p))
  all_counted = sum_n-blocks 256 (λ p a. adds st (record_at places p) a) ∙ sum_n-ext 256 (λ p h. share_is st (record_at places p))

  -- Nz = AᵀP(Az)
  N_zero : (n : ℕ) (z : ℕ → ℤ) → ((k : ℕ) → k < 768 → sum n (λ j. row_a st places k j *ℤ z j) ≡ pos 0) → (i : ℕ) → sum n (λ j. entry_n st places i j *ℤ z j) ≡ pos 0
  N_zero n z h i =
      sum-ext n (λ j l. ap (λ (y : ℤ). y *ℤ z j) (by_rows_lem j))
      ∙ sym (mat_assoc 768 n weighted (row_a st places) z i)
      ∙ sum-ext 768 (λ m q. ap (λ (y : ℤ). weighted i m *ℤ y) (h m q) ∙ *ℤ-zero (weighted i m))
      ∙ sum_0 768
    where
      -- AᵀP
      weighted : ℕ → ℕ → ℤ
      weighted i m = sum 768 (λ k. row_a st places k i *ℤ block_p places k m)

      by_rows_lem : (j : ℕ) → entry_n st places i j ≡ sum 768 (λ m. weighted i m *ℤ row_a st places m j)
      by_rows_lem j =
          N-whole st places i j
          ∙ sum-swap 768 768 (λ k m. row_a st places k i *ℤ block_p places k m *ℤ row_a st places m j)
          ∙ sum-ext 768 (λ m q. sum-*r 768 (row_a st places m j) (λ k. row_a st places k i *ℤ block_p places k m))

  module _ (M : ℕ → ℕ → ℤ) (five : defect_small (unknown_count st) (entry_n st places) M ≡ true) where
    pub observations-enough : unknown_count st ≤ sum_n 256 (λ p. share_d st (record_at places p))
    observations-enough = go (dec_lt (sum_n 256 (λ p. share_d st (record_at places p))) n)
      where
        n : ℕ
        n = unknown_count st

        some : sum_n 768 counted < n → Dependent 768 n (λ i k. row_a st places k i)
        some = dependent-within counted 768 n _ (λ k l e i. not_counted st (record_at places (k / 3)) (k % 3) i (omega arith) e)

        never : Dependent 768 n (λ i k. row_a st places k i) → ⊥
        never d =
            d.some.nonzero
            (kernel n (entry_n st places) M five d.multiple
            (λ i l. N_zero n d.multiple (λ k q. sum-ext n (λ j r. *ℤ_comm (row_a st places k j) (d.multiple j)) ∙ d.vanishes k q) i)
            d.some.index
            d.some.below)

        go : Dec (sum_n 256 (λ p. share_d st (record_at places p)) < n) → n ≤ sum_n 256 (λ p. share_d st (record_at places p))
        go (yes h) = absurd (never (some (subst (λ (s : ℕ). s < n) (sym all_counted) h)))
        go (no h) = omega arith

    pub freedom_nonnegative : pos 0 ≤ℤ D st places
    unfolding D
    freedom_nonnegative = ≤ℤ-sub (pos_mono observations-enough)
