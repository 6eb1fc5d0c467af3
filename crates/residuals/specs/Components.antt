-- Corrections, residuals and variances over tables of the 96 components, as the code holds them: numbers and unknowns of the station list, its coordinates, the corrections.
-- Each is what Residuals says of the station list. Assumes nothing.
use Prim.Native.Nat.{ℕ, ◌+◌, ◌*◌, ◌<◌, ◌≤◌, ◌^◌}
use Rattle.std.specs.Prelude.{◌≡◌, true, ◌⊎◌, List, [], ◌∷◌, length, nat_abs, ◌+ℤ◌, ◌-ℤ◌, ◌*ℤ◌}
use Rattle.std.proofs.Math.Path.{refl, sym}
use Rattle.std.proofs.Common.{ap, ap₂, ◌∙◌, inl, inr, mul-le-mul, mul-le-mul_right, lt_of_lt_of_le}
use native.Mathlib.Omega.{arith}
use Rattle.std.proofs.Math.ListN.{get_or}
use Rattle.std.proofs.Math.IntN.{ℤ, pos, zero-*ℤ}
use Rattle.integers.specs.Bounds.{bounds, absle}
use Rattle.integers.specs.Solvers.{ring, shapes}
use Rattle.integers.specs.Sums.{sum, sum-ext, sum--, sum-*l, sum-δ, δ}
use Rattle.integers.specs.Tables.{tabulate, get_d_tabulate, Within}
use Rattle.network.specs.Units.{most_stations, most_components, most_unknowns}
use Rattle.network.specs.Stations.{unknown, number, unknown_index, unknown_table, index_table, unknown_count, coordinate, coordinates}
use Rattle.network.specs.StationLaws.{unknown_cases, number_below}
use Rattle.network.specs.Records.{acts, from_of, to_of, joins, joins-one, misclosures, l}
use Rattle.network.specs.RecordLaws.{Observed}
use Rattle.network.specs.declared.Station.{Station}
use Rattle.network.specs.declared.Record.{Record}
use Rattle.normals.specs.Formulas.{A, is_unknown, matrix_length}
use Rattle.normals.specs.Acting.{A_acting}
use Rattle.residuals.specs.Residuals.{correction, adjusted, covariance, residual, difference_variance}

-- ════ the tables: beside those of the station list the corrections, 0 at each held component
abbrev pub corrections_of : List Station → List ℤ → List ℤ
corrections_of stations x = tabulate most_components (correction stations x)

-- the adjusted coordinate of component q, from the tables of coordinates and corrections
abbrev pub adjusted_in : List ℤ → List ℤ → ℕ → ℤ
adjusted_in coordinate corrections q = get_or coordinate q (pos 0) +ℤ get_or corrections q (pos 0)

-- the three of station s
unfoldable pub adjusted_station_in : List ℤ → List ℤ → ℕ → List ℤ
adjusted_station_in coordinate corrections s =
    adjusted_in coordinate corrections (s * 3) ∷ adjusted_in coordinate corrections (s * 3 + 1) ∷ adjusted_in coordinate corrections (s * 3 + 2) ∷ []

pub adjusted_in_lem : (stations : List Station) (x : List ℤ) (q : ℕ) → q < most_components → adjusted_in (coordinates stations) (corrections_of stations x) q ≡ adjusted stations x q
unfolding adjusted
adjusted_in_lem stations x q h = ap₂ ◌+ℤ◌ (get_d_tabulate most_components (coordinate stations) q (pos 0) h) (get_d_tabulate most_components (correction stations x) q (pos 0) h)

-- ════ the number of a component is an index of x
module _ (stations : List Station) where
  pub unknown_index_below : (q : ℕ) → q < most_components → 1 ≤ unknown_count stations → unknown_index stations q < unknown_count stations
  unfolding unknown_index
  unknown_index_below q h n = go (unknown_cases stations q)
    where
      go : (unknown stations q ≡ 0) ⊎ (unknown stations q ≡ 1) → unknown stations q * number stations q < unknown_count stations
      go (inl e) = rw e (omega arith)
      go (inr e) = let b = number_below stations q most_components h e in rw e (omega arith)

  -- where a component is held, its number does not matter
  by_index : (q : ℕ) (f : ℕ → ℤ) → pos (unknown stations q) *ℤ f (unknown_index stations q) ≡ pos (unknown stations q) *ℤ f (number stations q)
  unfolding unknown_index
  by_index q f = go (unknown_cases stations q)
    where
      go : (unknown stations q ≡ 0) ⊎ (unknown stations q ≡ 1)
          → pos (unknown stations q) *ℤ f (unknown stations q * number stations q) ≡ pos (unknown stations q) *ℤ f (number stations q)
      go (inl e) = rw e (zero-*ℤ (f (0 * number stations q)) ∙ sym (zero-*ℤ (f (number stations q))))
      go (inr e) = let one : 1 * number stations q ≡ number stations q = omega arith in rw (e, one) refl

  correction_index : (x : List ℤ) (q : ℕ) → pos (unknown stations q) *ℤ get_or x (unknown_index stations q) (pos 0) ≡ correction stations x q
  unfolding correction
  correction_index x q = by_index q (λ k. get_or x k (pos 0))

  -- the corrections as the code has them, from the tables
  pub correction_in : (x : List ℤ) (q : ℕ) → q < most_components
      → get_or (unknown_table stations) q (pos 0) *ℤ get_or x (get_or (index_table stations) q 0) (pos 0) ≡ correction stations x q
  correction_in x q h =
      rw (get_d_tabulate most_components (λ i. pos (unknown stations i)) q (pos 0) h, get_d_tabulate most_components (unknown_index stations) q 0 h) (correction_index x q)

  -- ════ a sum with row a of A, where the record acts: what stands at the to end less what stands at the from end
  -- h at component q, 0 for a held one
  abbrev pub at_end : (ℕ → ℤ) → ℕ → ℤ
  at_end h q = pos (unknown stations q) *ℤ h (number stations q)

  end_sum : (h : ℕ → ℤ) (q : ℕ) → q < most_components → sum (unknown_count stations) (λ i. is_unknown stations q i *ℤ h i) ≡ at_end h q
  unfolding is_unknown
  end_sum h q l =
      sum-ext n (λ i o. ring (u ∷ δ (number stations q) i ∷ h i ∷ []) (search shapes) tt)
      ∙ sum-*l n u (λ i. δ (number stations q) i *ℤ h i)
      ∙ go (unknown_cases stations q)
    where
      n : ℕ
      n = unknown_count stations

      u : ℤ
      u = pos (unknown stations q)

      go : (unknown stations q ≡ 0) ⊎ (unknown stations q ≡ 1) → pos (unknown stations q) *ℤ sum n (λ i. δ (number stations q) i *ℤ h i) ≡ at_end h q
      go (inl e) = rw e (zero-*ℤ (sum n (λ i. δ (number stations q) i *ℤ h i)) ∙ sym (zero-*ℤ (h (number stations q))))
      go (inr e) = ap (λ (z : ℤ). pos (unknown stations q) *ℤ z) (sum-δ n (number stations q) h (number_below stations q most_components l e))

  pub A-sum : (h : ℕ → ℤ) (r : Record) (a : ℕ) → acts a r ≡ true → from_of r * 3 + a < most_components → to_of r * 3 + a < most_components
      → sum (unknown_count stations) (λ i. A stations r a i *ℤ h i) ≡ at_end h (to_of r * 3 + a) -ℤ joins r *ℤ at_end h (from_of r * 3 + a)
  A-sum h r a e hf ht =
      sum-ext n (λ i o. ap (λ (z : ℤ). z *ℤ h i) (A_acting stations r a i e) ∙ ring (t i ∷ f i ∷ joins r ∷ h i ∷ []) (search shapes) tt)
      ∙ sum-- n (λ i. t i *ℤ h i) (λ i. joins r *ℤ (f i *ℤ h i))
      ∙ ap₂ ◌-ℤ◌ (end_sum h (to_of r * 3 + a) ht) (sum-*l n (joins r) (λ i. f i *ℤ h i) ∙ ap (λ (z : ℤ). joins r *ℤ z) (end_sum h (from_of r * 3 + a) hf))
    where
      n : ℕ
      n = unknown_count stations

      t : ℕ → ℤ
      t i = is_unknown stations (to_of r * 3 + a) i

      f : ℕ → ℤ
      f i = is_unknown stations (from_of r * 3 + a) i

-- ════ residuals over the tables: what Residuals says where the record acts; where it does not, its weights are 0 and no line has its residual
unfoldable pub residual_in : List ℤ → List ℤ → Record → ℕ → ℤ
residual_in coordinate corrections r a =
    get_or (misclosures coordinate r) a (pos 0)
    -ℤ (get_or corrections (to_of r * 3 + a) (pos 0) -ℤ joins r *ℤ get_or corrections (from_of r * 3 + a) (pos 0))

abbrev pub residuals_in : List ℤ → List ℤ → Record → List ℤ
residuals_in coordinate corrections r =
    residual_in coordinate corrections r 0 ∷ residual_in coordinate corrections r 1 ∷ residual_in coordinate corrections r 2 ∷ []

pub residual_in_lem : (stations : List Station) (x : List ℤ) (r : Record) → from_of r < most_stations → to_of r < most_stations → (a : ℕ) → a < 3 → acts a r ≡ true
    → residual_in (coordinates stations) (corrections_of stations x) r a ≡ residual stations x r a
unfolding residual_in residual correction
residual_in_lem stations x r f t a h e =
    let p : to_of r * 3 + a < most_components = omega arith in
    let q : from_of r * 3 + a < most_components = omega arith in
    rw (get_d_tabulate most_components (correction stations x) (to_of r * 3 + a) (pos 0) p, get_d_tabulate most_components (correction stations x) (from_of r * 3 + a) (pos 0) q)
    (ap (λ (z : ℤ). l stations r a -ℤ z) (sym (A-sum stations (λ i. get_or x i (pos 0)) r a e q p)))

-- what the code asks of a record and of the tables
pub record Closes (coordinate corrections : List ℤ) (r : Record) : Type 0 where
  pub observed : Observed coordinate r
  pub closes : (a : ℕ) → nat_abs (get_or (misclosures coordinate r) a (pos 0)) ≤ 100000
  pub moved : Within most_components 100000 corrections

pub residual-size : (coordinate corrections : List ℤ) (r : Record) → Closes coordinate corrections r → (a : ℕ) → nat_abs (residual_in coordinate corrections r a) ≤ 300000
unfolding residual_in
residual-size coordinate corrections r c a =
    let j = joins-one r in
    let h = c.closes a in
    let w = c.moved in
    let x = w.bound (to_of r * 3 + a) in
    let y = w.bound (from_of r * 3 + a) in
    absle (get_or (misclosures coordinate r) a (pos 0) -ℤ (get_or corrections (to_of r * 3 + a) (pos 0) -ℤ joins r *ℤ get_or corrections (from_of r * 3 + a) (pos 0)))
    (search bounds) (omega arith)

-- ════ covariances over the tables
unfoldable pub covariance_in : List ℕ → List ℤ → List ℤ → ℕ → ℕ → ℕ → ℤ
covariance_in numbers unknowns m n q k =
    get_or unknowns q (pos 0) *ℤ get_or unknowns k (pos 0) *ℤ get_or m (get_or numbers q 0 * n + get_or numbers k 0) (pos 0)

-- the variances of station s
unfoldable pub variances_in : List ℕ → List ℤ → List ℤ → ℕ → ℕ → List ℤ
variances_in numbers unknowns m n s =
    covariance_in numbers unknowns m n (s * 3) (s * 3)
    ∷ covariance_in numbers unknowns m n (s * 3 + 1) (s * 3 + 1)
    ∷ covariance_in numbers unknowns m n (s * 3 + 2) (s * 3 + 2)
    ∷ []

unfoldable pub difference_in : List ℕ → List ℤ → List ℤ → ℕ → ℕ → ℕ → ℤ → ℤ
difference_in numbers unknowns m n t f j =
    covariance_in numbers unknowns m n t t
    +ℤ j *ℤ (covariance_in numbers unknowns m n f f -ℤ covariance_in numbers unknowns m n t f -ℤ covariance_in numbers unknowns m n f t)

-- one factor after the other
held_both : (u v a b c : ℤ) → v *ℤ a ≡ v *ℤ b → u *ℤ b ≡ u *ℤ c → u *ℤ v *ℤ a ≡ u *ℤ v *ℤ c
held_both u v a b c e f =
    ring (u ∷ v ∷ a ∷ []) (search shapes) tt
    ∙ ap (λ (z : ℤ). u *ℤ z) e
    ∙ ring (u ∷ v ∷ b ∷ []) (search shapes) tt
    ∙ ap (λ (z : ℤ). v *ℤ z) f
    ∙ ring (u ∷ v ∷ c ∷ []) (search shapes) tt

module _ (stations : List Station) (m : List ℤ) where
  pub covariance_in_lem : (q k : ℕ) → q < most_components → k < most_components → covariance_in (index_table stations) (unknown_table stations) m (unknown_count stations) q k ≡ covariance stations m q k
  unfolding covariance_in covariance
  covariance_in_lem q k h g =
      rw (
        get_d_tabulate most_components (unknown_index stations) q 0 h,
        get_d_tabulate most_components (unknown_index stations) k 0 g,
        get_d_tabulate most_components (λ i. pos (unknown stations i)) q (pos 0) h,
        get_d_tabulate most_components (λ i. pos (unknown stations i)) k (pos 0) g,
      )
      (held_both u v (at (unknown_index stations q) (unknown_index stations k)) (at (unknown_index stations q) (number stations k)) (at (number stations q) (number stations k))
      (by_index stations k (at (unknown_index stations q)))
      (by_index stations q (λ i. at i (number stations k))))
    where
      u : ℤ
      u = pos (unknown stations q)

      v : ℤ
      v = pos (unknown stations k)

      at : ℕ → ℕ → ℤ
      at i j = get_or m (i * unknown_count stations + j) (pos 0)

  pub difference_in_lem : (r : Record) → from_of r < most_stations → to_of r < most_stations → (a : ℕ) → a < 3
      → difference_in (index_table stations) (unknown_table stations) m (unknown_count stations) (to_of r * 3 + a) (from_of r * 3 + a) (joins r) ≡ difference_variance stations m r a
  unfolding difference_in difference_variance
  difference_in_lem r f t a h =
      let p : to_of r * 3 + a < most_components = omega arith in
      let q : from_of r * 3 + a < most_components = omega arith in
      rw (
        covariance_in_lem (to_of r * 3 + a) (to_of r * 3 + a) p p,
        covariance_in_lem (from_of r * 3 + a) (from_of r * 3 + a) q q,
        covariance_in_lem (to_of r * 3 + a) (from_of r * 3 + a) p q,
        covariance_in_lem (from_of r * 3 + a) (to_of r * 3 + a) q p,
      )

-- what the code asks of the tables and of M
pub record Lookup (numbers : List ℕ) (unknowns m : List ℤ) (n : ℕ) : Type 0 where
  pub below : (q : ℕ) → q < most_components → get_or numbers q 0 < n
  pub few : n ≤ most_unknowns
  pub bits : Within most_components 1 unknowns
  pub square : length m ≡ n * n
  pub small : (k : ℕ) → nat_abs (get_or m k (pos 0)) ≤ 2 ^ 34

-- row i, column j of n rows of n
in_square : (i j n : ℕ) → i < n → j < n → i * n + j < n * n
in_square i j n h k = let p = mul-le-mul_right n h in omega arith

module _ {numbers : List ℕ} {unknowns m : List ℤ} {n : ℕ} (w : Lookup numbers unknowns m n) where
  -- the index of M at the components q and k
  pub index_inside : (q k : ℕ) → q < most_components → k < most_components → get_or numbers q 0 * n + get_or numbers k 0 < length m
  index_inside q k h g = rw w.square (in_square (get_or numbers q 0) (get_or numbers k 0) n (w.below q h) (w.below k g))

  pub index_small : (q k : ℕ) → q < most_components → k < most_components → get_or numbers q 0 * n + get_or numbers k 0 < matrix_length
  index_small q k h g = lt_of_lt_of_le (in_square (get_or numbers q 0) (get_or numbers k 0) n (w.below q h) (w.below k g)) (mul-le-mul w.few w.few)

  pub covariance-size : (q k : ℕ) → nat_abs (covariance_in numbers unknowns m n q k) ≤ 2 ^ 34
  unfolding covariance_in
  covariance-size q k =
      let a = w.bits.bound q in let b = w.bits.bound k in let c = w.small (get_or numbers q 0 * n + get_or numbers k 0) in
      absle (get_or unknowns q (pos 0) *ℤ get_or unknowns k (pos 0) *ℤ get_or m (get_or numbers q 0 * n + get_or numbers k 0) (pos 0)) (search bounds) (omega arith)

  pub difference-size : (t f : ℕ) (j : ℤ) → nat_abs j ≤ 1 → nat_abs (difference_in numbers unknowns m n t f j) ≤ 2 ^ 36
  unfolding difference_in
  difference-size t f j h =
      let a = covariance-size t t in let b = covariance-size f f in let c = covariance-size t f in let d = covariance-size f t in
      absle (covariance_in numbers unknowns m n t t +ℤ j *ℤ (covariance_in numbers unknowns m n f f -ℤ covariance_in numbers unknowns m n t f -ℤ covariance_in numbers unknowns m n f t))
      (search bounds) (omega arith)
