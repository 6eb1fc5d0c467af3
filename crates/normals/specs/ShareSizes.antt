-- Sizes of one record's share of N and u. Assumes nothing.
use Rattle.std.specs.Prelude.{ℕ, ◌+◌, ◌*◌, ◌≤◌, ◌≡◌, List, ℤ, ◌*ℤ◌}
use Rattle.std.proofs.Common.{sym, ap, ◌∙◌, arith, le_refl, mul-le-mul_right}
use Rattle.std.proofs.Math.Path.{subst}
use Rattle.std.proofs.Math.Nat.{le_trans, mul-le-mul}
use Rattle.std.proofs.Math.IntN.{nat_abs}
use Rattle.integers.specs.Bounds.{abs-*}
use Rattle.integers.specs.Sums.{sum, sum_n, abs-sum, abs-sum-const, sum_n_mono, sum_n-ext, sum_n-*l, sum_n-*r}
use Rattle.network.specs.Records.{l}
use Rattle.network.specs.RuleLaws.{SoundRecord}
use Rattle.network.specs.declared.Station.{Station}
use Rattle.network.specs.declared.Record.{Record}
use Rattle.normals.specs.Formulas.{P, A, share_n, share_u}
use Rattle.normals.specs.Columns.{column, column-one, all_six}

module _ (st : List Station) (r : Record) (g : SoundRecord st r) where
  -- Σ_a Σ_b |A_a| w |B_b|
  spread : (f h : ℕ → ℕ) (B : ℕ) → sum_n 3 (λ a. sum_n 3 (λ b. f a * B * h b)) ≡ sum_n 3 f * B * sum_n 3 h
  spread f h B =
      sum_n-ext 3 (λ a o. sum_n-*l 3 (f a * B) h)
      ∙ sum_n-*r 3 (sum_n 3 h) (λ a. f a * B)
      ∙ ap (λ (n : ℕ). n * sum_n 3 h) (sum_n-*r 3 B f)

  pub share_size : (i j : ℕ) → nat_abs (share_n st r i j) ≤ column st r i * 10000 * column st r j
  unfolding share_n
  share_size i j =
      subst (λ (n : ℕ). nat_abs (sum 3 (λ a. sum 3 (λ b. A st r a i *ℤ P r a b *ℤ A st r b j))) ≤ n) (spread (λ a. nat_abs (A st r a i)) (λ b. nat_abs (A st r b j)) 10000)
      (le_trans (abs-sum 3 (λ a. sum 3 (λ b. A st r a i *ℤ P r a b *ℤ A st r b j)))
      (sum_n_mono 3 (λ a o. le_trans (abs-sum 3 (λ b. A st r a i *ℤ P r a b *ℤ A st r b j))
      (sum_n_mono 3 (λ b k. product (A st r a i) (P r a b) (A st r b j) (g.weight (a * 3 + b)))))))
    where
      product : (x y z : ℤ) → nat_abs y ≤ 10000 → nat_abs (x *ℤ y *ℤ z) ≤ nat_abs x * 10000 * nat_abs z
      product x y z h = rw (abs-* (x *ℤ y) z, abs-* x y) (mul-le-mul (mul-le-mul (le_refl (nat_abs x)) h) (le_refl (nat_abs z)))

  pub share_entry : (i j : ℕ) → nat_abs (share_n st r i j) ≤ 10000
  share_entry i j = le_trans (share_size i j) (mul-le-mul (mul-le-mul (column-one st r g.apart i) (le_refl 10000)) (column-one st r g.apart j))

  pub share_row : (n i : ℕ) → sum_n n (λ j. nat_abs (share_n st r i j)) ≤ 60000
  share_row n i =
      le_trans (sum_n_mono n (λ j o. share_size i j))
      (subst (λ (m : ℕ). m ≤ 60000) (sym (sum_n-*l n (column st r i * 10000) (column st r))) (mul-le-mul (mul-le-mul (column-one st r g.apart i) (le_refl 10000)) (all_six st r n)))

  pub share_all : (n : ℕ) → sum_n n (λ i. sum_n n (λ j. nat_abs (share_n st r i j))) ≤ 360000
  share_all n =
      le_trans
      (sum_n_mono n (λ i o. le_trans (sum_n_mono n (λ j k. share_size i j))
      (subst (λ (m : ℕ). m ≤ column st r i * 60000) (sym (sum_n-*l n (column st r i * 10000) (column st r))) (row (column st r i) (all_six st r n)))))
      (subst (λ (m : ℕ). m ≤ 360000) (sym (sum_n-*r n 60000 (column st r))) (mul-le-mul_right 60000 (all_six st r n)))
    where
      row : (x : ℕ) {y : ℕ} → y ≤ 6 → x * 10000 * y ≤ x * 60000
      row x {y} h = omega (arith, mul-le-mul (le_refl (x * 10000)) h)

  pub share_u_lem : (i : ℕ) → nat_abs (share_u st r i) ≤ 3000000000
  unfolding share_u
  share_u_lem i =
      le_trans (abs-sum 3 (λ a. sum 3 (λ b. A st r a i *ℤ P r a b *ℤ l st r b)))
      (le_trans (sum_n_mono 3 (λ a o. row a))
      (subst (λ (m : ℕ). m ≤ 3000000000) (sym (sum_n-*r 3 3000000000 (λ a. nat_abs (A st r a i)))) (mul-le-mul_right 3000000000 (column-one st r g.apart i))))
    where
      product : (x y z : ℤ) → nat_abs y ≤ 10000 → nat_abs z ≤ 100000 → nat_abs (x *ℤ y *ℤ z) ≤ nat_abs x * 1000000000
      product x y z h k = rw (abs-* (x *ℤ y) z, abs-* x y) (omega (arith, mul-le-mul (mul-le-mul (le_refl (nat_abs x)) h) k))

      row : (a : ℕ) → nat_abs (sum 3 (λ b. A st r a i *ℤ P r a b *ℤ l st r b)) ≤ nat_abs (A st r a i) * 3000000000
      row a = omega (
        arith,
        abs-sum-const 3 (λ b. A st r a i *ℤ P r a b *ℤ l st r b) (nat_abs (A st r a i) * 1000000000)
            (λ b k. product (A st r a i) (P r a b) (l st r b) (g.weight (a * 3 + b)) (g.misclosure b)),
      )
