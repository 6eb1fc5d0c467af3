-- Few coefficients: a column of a record's A has at most one entry, ±1, and all of it at most six. So the sizes of N and u stay small. Assumes nothing.
use Prim.Native.Nat.{ℕ, zero, suc, ◌+◌, ◌*◌, ◌<◌, ◌≤◌, zero-le}
use Rattle.std.specs.Prelude.{◌≡◌, refl, Bool, true, false, cond, List, ◌⊎◌, ◌-ℤ◌, ◌*ℤ◌}
use Rattle.std.proofs.Common.{sym, ◌∙◌, inl, inr, le_trans, le_refl}
use Rattle.std.proofs.Math.Path.{ap, subst}
use native.Mathlib.Omega.{arith}
use Rattle.std.proofs.Math.Decide.{ℕ_discrete, dec_lt}
use Rattle.std.proofs.Math.Nat.{mul-le-mul}
use Rattle.std.proofs.Math.IntN.{ℤ, pos, nat_abs, zero-*ℤ}
use Rattle.integers.specs.Bounds.{abs--, abs-*}
use Rattle.integers.specs.Sums.{sum_n, sum_n_mono, sum_n-first, sum_n-const, sum_n-+, sum_n-swap, δ, δ_other}
use Rattle.network.specs.Stations.{unknown, number}
use Rattle.network.specs.StationLaws.{unknown-bit, unknown_cases, number-suc}
use Rattle.network.specs.Records.{acts, joins, joins-one, from_of, to_of}
use Rattle.network.specs.declared.Station.{Station}
use Rattle.network.specs.declared.Record.{Record}
use Rattle.normals.specs.Formulas.{is_unknown, A}
use Rattle.normals.specs.EquationSizes.{abs-δ}

-- a unit column's sizes
δ-sum : (n j : ℕ) → (sum_n n (λ i. nat_abs (δ j i)) ≤ 1) × (n ≤ j → sum_n n (λ i. nat_abs (δ j i)) ≡ 0)
unfolding sum_n
δ-sum zero j = (omega arith, λ h. refl)
δ-sum (suc n) j = go (δ-sum n j) (ℕ_discrete j n)
  where
    go : (sum_n n (λ i. nat_abs (δ j i)) ≤ 1) × (n ≤ j → sum_n n (λ i. nat_abs (δ j i)) ≡ 0) → Dec (j ≡ n)
        → (sum_n n (λ i. nat_abs (δ j i)) + nat_abs (δ j n) ≤ 1) × (suc n ≤ j → sum_n n (λ i. nat_abs (δ j i)) + nat_abs (δ j n) ≡ 0)
    go ih (yes e) = let z = ih.1 (omega arith) in (omega (arith, abs-δ j n), λ h. omega arith)
    go ih (no e) = let z : nat_abs (δ j n) ≡ 0 = ap nat_abs (δ_other j n e) in let a = ih.0 in (omega arith, λ h. let y = ih.1 (omega arith) in omega arith)

-- the sizes in column i of a record's A
abbrev pub column : List Station → Record → ℕ → ℕ
column st r i = sum_n 3 (λ a. nat_abs (A st r a i))

-- three more
three : (f : ℕ → ℕ) (m : ℕ) → sum_n (m + 3) f ≡ sum_n m f + sum_n 3 (λ a. f (m + a))
unfolding sum_n
three f m =
    let e : m + 3 ≡ suc (suc (suc m)) = omega arith in
    let z : m + 0 ≡ m = omega arith in let o : m + 1 ≡ suc m = omega arith in let t : m + 2 ≡ suc (suc m) = omega arith in
    rw (e, z, o, t) (omega arith)

module _ (st : List Station) where
  -- 1 where component q is the unknown i
  abbrev hit : ℕ → ℕ → ℕ
  hit i q = nat_abs (is_unknown st q i)

  hit_δ : (i q : ℕ) → hit i q ≤ nat_abs (δ (number st q) i)
  unfolding is_unknown
  hit_δ i q = omega (arith, abs-* (pos (unknown st q)) (δ (number st q) i), mul-le-mul (unknown-bit st q) (le_refl (nat_abs (δ (number st q) i))))

  hit_held : (i q : ℕ) → unknown st q ≡ 0 → hit i q ≡ 0
  unfolding is_unknown
  hit_held i q e = ap nat_abs (ap (λ (b : ℕ). pos b *ℤ δ (number st q) i) e ∙ zero-*ℤ (δ (number st q) i))

  -- at most one component is the unknown i
  once : (i m : ℕ) → (sum_n m (hit i) ≤ 1) × (number st m ≤ i → sum_n m (hit i) ≡ 0)
  unfolding sum_n
  once i zero = (omega arith, λ h. refl)
  once i (suc m) = go (once i m) (unknown_cases st m) (ℕ_discrete (number st m) i)
    where
      go : (sum_n m (hit i) ≤ 1) × (number st m ≤ i → sum_n m (hit i) ≡ 0) → (unknown st m ≡ 0) ⊎ (unknown st m ≡ 1) → Dec (number st m ≡ i)
          → (sum_n m (hit i) + hit i m ≤ 1) × (number st (suc m) ≤ i → sum_n m (hit i) + hit i m ≡ 0)
      go ih (inl e) d = let z = hit_held i m e in let a = ih.0 in (omega arith, λ h. let y = ih.1 (omega (arith, number-suc st m)) in omega arith)
      go ih (inr e) (yes d) = let z = ih.1 (omega arith) in (omega (arith, hit_δ i m, abs-δ (number st m) i), λ h. absurd (omega (arith, number-suc st m)))
      go ih (inr e) (no d) =
          let z : hit i m ≤ 0 = subst (λ (x : ℕ). hit i m ≤ x) (ap nat_abs (δ_other (number st m) i d)) (hit_δ i m) in
          let a = ih.0 in
          (omega arith, λ h. let y = ih.1 (omega (arith, number-suc st m)) in omega arith)

  -- two stations have at most one component that is the unknown i
  two : (i s t : ℕ) → s < t → sum_n 3 (λ a. hit i (s * 3 + a)) + sum_n 3 (λ a. hit i (t * 3 + a)) ≤ 1
  two i s t h =
      omega (arith, sum_n-first (s * 3 + 3) (t * 3) (hit i) (omega arith), three (hit i) (s * 3), three (hit i) (t * 3), (once i (t * 3 + 3)).0)

  -- an entry of A
  A-size : (r : Record) (a i : ℕ) → nat_abs (A st r a i) ≤ hit i (to_of r * 3 + a) + nat_abs (joins r *ℤ is_unknown st (from_of r * 3 + a) i)
  unfolding A
  A-size r a i = go (acts a r)
    where
      t : ℤ
      t = is_unknown st (to_of r * 3 + a) i

      f : ℤ
      f = joins r *ℤ is_unknown st (from_of r * 3 + a) i

      go : (b : Bool) → nat_abs (cond b (t -ℤ f) (pos 0)) ≤ nat_abs t + nat_abs f
      go true = abs-- t f
      go false = zero-le

  A_hit : (r : Record) (a i : ℕ) → nat_abs (A st r a i) ≤ hit i (to_of r * 3 + a) + hit i (from_of r * 3 + a)
  A_hit r a i =
      let x = is_unknown st (from_of r * 3 + a) i in
      omega (arith, A-size r a i, abs-* (joins r) x, mul-le-mul (joins-one r) (le_refl (nat_abs x)))

  module _ (r : Record) where
    column_hit : (i : ℕ) → column st r i ≤ sum_n 3 (λ a. hit i (to_of r * 3 + a)) + sum_n 3 (λ a. hit i (from_of r * 3 + a))
    column_hit i =
        subst (λ (n : ℕ). column st r i ≤ n) (sum_n-+ 3 (λ a. hit i (to_of r * 3 + a)) (λ a. hit i (from_of r * 3 + a)))
        (sum_n_mono 3 (λ a h. A_hit r a i))

    column-to : (i : ℕ) → joins r ≡ pos 0 → column st r i ≤ sum_n 3 (λ a. hit i (to_of r * 3 + a))
    column-to i e =
        sum_n_mono 3 (λ a h.
        let x = is_unknown st (from_of r * 3 + a) i in
        let z : nat_abs (joins r *ℤ x) ≡ 0 = ap nat_abs (ap (λ (y : ℤ). y *ℤ x) e ∙ zero-*ℤ x) in
        omega (arith, A-size r a i))

    -- a column of A has at most one entry, ±1
    pub column-one : (joins r ≡ pos 0) ⊎ (from_of r ≡ to_of r → ⊥) → (i : ℕ) → column st r i ≤ 1
    column-one (inl e) i = omega (arith, column-to i e, three (hit i) (to_of r * 3), (once i (to_of r * 3 + 3)).0)
    column-one (inr ne) i = go (dec_lt (from_of r) (to_of r)) (ℕ_discrete (from_of r) (to_of r))
      where
        go : Dec (from_of r < to_of r) → Dec (from_of r ≡ to_of r) → column st r i ≤ 1
        go (yes h) d = omega (arith, column_hit i, two i (from_of r) (to_of r) h)
        go (no h) (yes e) = absurd (ne e)
        go (no h) (no e) = let w : to_of r < from_of r = omega arith in omega (arith, column_hit i, two i (to_of r) (from_of r) w)

    row_hit : (n q : ℕ) → sum_n n (λ i. hit i q) ≤ 1
    row_hit n q = le_trans (sum_n_mono n (λ i h. hit_δ i q)) (δ-sum n (number st q)).0

    -- all entries of A
    pub all_six : (n : ℕ) → sum_n n (column st r) ≤ 6
    all_six n =
        subst (λ (m : ℕ). m ≤ 6) (sym (sum_n-swap n 3 (λ i a. nat_abs (A st r a i))))
        (sum_n-const 3 {f = λ a. sum_n n (λ i. nat_abs (A st r a i))} 2 (λ a h.
        le_trans
        (subst (λ (m : ℕ). sum_n n (λ i. nat_abs (A st r a i)) ≤ m) (sum_n-+ n (λ i. hit i (to_of r * 3 + a)) (λ i. hit i (from_of r * 3 + a)))
        (sum_n_mono n (λ i o. A_hit r a i)))
        (omega (arith, row_hit n (to_of r * 3 + a), row_hit n (from_of r * 3 + a)))))
