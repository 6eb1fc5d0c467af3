-- "Also to be shown: where M is S times the exact inverse, rounded, q is less than 3 from S times the exact residual variance." That is the diagonal of P⁻¹ − A N⁻¹ Aᵀ.
-- P⁻¹ is Q over p and N⁻¹ is Z over D, so that the claim, multiplied by p·D, is about whole numbers. Assumes nothing.
use Rattle.std.specs.Prelude.{ℕ, ◌+◌, ◌*◌, ◌<◌, ◌≤◌, ◌≡◌, refl, true, ◌⊎◌, List, [], ◌∷◌, ℤ, nat_abs, ◌+ℤ◌, ◌-ℤ◌, ◌*ℤ◌, ◌≤ℤ◌, ◌<ℤ◌}
use Rattle.std.proofs.Common.{sym, ap, ◌∙◌, inl, inr, mul_comm, mul-le-mul_left, mul-le-mul_right}
use native.Mathlib.Omega.{arith}
use Rattle.std.proofs.Math.Nat.{mul-lt-mul_of_pos_left, lt_of_mul-lt-mul_left}
use Rattle.std.proofs.Math.ListN.{get_or}
use Rattle.std.proofs.Math.IntN.{pos}
use Rattle.integers.specs.Bounds.{abs-+, abs--, abs-*}
use Rattle.integers.specs.Solvers.{ring, shapes, zlt, ltz}
use Rattle.integers.specs.Order.{zarith, pos-abs, ≤ℤ-sub}
use Rattle.integers.specs.Sums.{sum, sum-ext, sum-*l}
use Rattle.integers.specs.Division.{floor_div, floor_div-≤, floor_div->}
use Rattle.network.specs.Stations.{unknown, number, unknown_count, network_fits}
use Rattle.network.specs.StationLaws.{unknown_cases, number_below}
use Rattle.network.specs.Records.{acts, from_of, to_of, joins, joins-one}
use Rattle.network.specs.RecordLaws.{joins_are}
use Rattle.network.specs.Rules.{record_fits}
use Rattle.network.specs.RuleLaws.{sound_record}
use Rattle.network.specs.declared.Station.{Station}
use Rattle.network.specs.declared.Network.{Network}
use Rattle.network.specs.declared.Place.{Place}
use Rattle.network.specs.declared.Record.{Record}
use Rattle.normals.specs.Formulas.{A, entry_n}
use Rattle.acceptance.specs.Tests.{by_rows}
use Rattle.acceptance.specs.Follows.{RoundedInverse}
use Rattle.integers.specs.Inverses.{S}
use Rattle.residuals.specs.Residuals.{covariance, difference_variance, residual_variance}
use Rattle.residuals.specs.Components.{at_end, A-sum}
use Rattle.checks.specs.InverseWeights.{InverseWeights, weight_adjugate, weight_determinant, inverse-weights, observation_quotient, proportional}

-- ════ the diagonal of P⁻¹ − A N⁻¹ Aᵀ, in component a of record r, times p·D so that it is whole; P⁻¹ is Q over p, and N⁻¹ is Z over D
unfoldable pub exact_residual_variance : List Station → Record → (ℕ → ℕ → ℤ) → ℕ → (ℕ → ℕ → ℤ) → ℕ → ℕ → ℤ
exact_residual_variance stations r Q p Z D a =
    Q a a *ℤ pos D -ℤ pos p *ℤ sum n (λ i. sum n (λ j. A stations r a i *ℤ Z i j *ℤ A stations r a j))
  where
    n : ℕ
    n = unknown_count stations

-- ════ A N⁻¹ Aᵀ there, from four entries
-- Z at the components q and k, 0 at held ones
unfoldable pub exact_covariance : List Station → (ℕ → ℕ → ℤ) → ℕ → ℕ → ℤ
exact_covariance stations Z q k = pos (unknown stations q) *ℤ pos (unknown stations k) *ℤ Z (number stations q) (number stations k)

-- Z_tt + Z_ff − Z_tf − Z_ft
unfoldable pub exact_difference : List Station → (ℕ → ℕ → ℤ) → Record → ℕ → ℤ
exact_difference stations Z r a =
    exact_covariance stations Z t t +ℤ joins r *ℤ (exact_covariance stations Z f f -ℤ exact_covariance stations Z t f -ℤ exact_covariance stations Z f t)
  where
    t : ℕ
    t = to_of r * 3 + a

    f : ℕ
    f = from_of r * 3 + a

joins-twice : (r : Record) → joins r *ℤ joins r ≡ joins r
joins-twice r = go (joins_are r)
  where
    go : (joins r ≡ pos 1) ⊎ ((joins r ≡ pos 0) × (from_of r ≡ to_of r)) → joins r *ℤ joins r ≡ joins r
    go (inl e) = rw e refl
    go (inr e) = rw e.0 refl

-- "q = floor(S·adj/det) − (M_tt + M_ff − M_tf − M_ft)": the same of the exact inverse, where the record acts
pub four-entries : (stations : List Station) (Z : ℕ → ℕ → ℤ) (r : Record) (a : ℕ) → acts a r ≡ true → from_of r * 3 + a < 96 → to_of r * 3 + a < 96
    → sum (unknown_count stations) (λ i. sum (unknown_count stations) (λ j. A stations r a i *ℤ Z i j *ℤ A stations r a j)) ≡ exact_difference stations Z r a
unfolding exact_difference exact_covariance
four-entries stations Z r a e hf ht =
    sum-ext n (λ i o.
    sum-ext n (λ j k. ring (A stations r a i ∷ Z i j ∷ A stations r a j ∷ []) (search shapes) tt)
    ∙ sum-*l n (A stations r a i) (λ j. A stations r a j *ℤ Z i j)
    ∙ ap (λ (z : ℤ). A stations r a i *ℤ z) (A-sum stations (Z i) r a e hf ht))
    ∙ A-sum stations (λ i. at_end stations (Z i) t -ℤ joins r *ℤ at_end stations (Z i) f) r a e hf ht
    ∙ apart (pos (unknown stations t)) (pos (unknown stations f)) (joins r) (Z (number stations t) (number stations t)) (Z (number stations t) (number stations f))
    (Z (number stations f) (number stations t)) (Z (number stations f) (number stations f)) (joins-twice r)
  where
    n : ℕ
    n = unknown_count stations

    t : ℕ
    t = to_of r * 3 + a

    f : ℕ
    f = from_of r * 3 + a

    apart : (u v g tt' tf ft ff : ℤ) → g *ℤ g ≡ g
        → u *ℤ (u *ℤ tt' -ℤ g *ℤ (v *ℤ tf)) -ℤ g *ℤ (v *ℤ (u *ℤ ft -ℤ g *ℤ (v *ℤ ff))) ≡ u *ℤ u *ℤ tt' +ℤ g *ℤ (v *ℤ v *ℤ ff -ℤ u *ℤ v *ℤ tf -ℤ v *ℤ u *ℤ ft)
    apart u v g tt' tf ft ff q =
        ring (u ∷ v ∷ g ∷ tt' ∷ tf ∷ ft ∷ ff ∷ []) (search shapes depth 12) tt
        ∙ ap (λ (k : ℤ). u *ℤ u *ℤ tt' +ℤ (k *ℤ (v *ℤ v *ℤ ff) -ℤ g *ℤ (u *ℤ v *ℤ tf +ℤ v *ℤ u *ℤ ft))) q
        ∙ ring (u ∷ v ∷ g ∷ tt' ∷ tf ∷ ft ∷ ff ∷ []) (search shapes depth 12) tt

-- ════ the quotient is less than 1 below
gap : (y f : ℤ) (d : ℕ) → (f *ℤ pos d) ≤ℤ y → y <ℤ ((f +ℤ pos 1) *ℤ pos d) → nat_abs (y -ℤ f *ℤ pos d) < d
gap y f d low high =
    let ρ = y ∷ f ∷ pos d ∷ [] in
    let above : pos 0 ≤ℤ (y -ℤ f *ℤ pos d) = ≤ℤ-sub low in
    let below : (y -ℤ f *ℤ pos d) <ℤ pos d = zlt ρ (search shapes) (omega (arith, ltz ρ (search shapes) high)) in
    let size : pos (nat_abs (y -ℤ f *ℤ pos d)) ≡ y -ℤ f *ℤ pos d = pos-abs above in
    omega (zarith, below, size)

-- a fraction written in two ways is as far from a whole number
same_gap : (x y f : ℤ) (d p : ℕ) → pos d *ℤ y ≡ pos p *ℤ x → 0 < p → nat_abs (S *ℤ x -ℤ f *ℤ pos d) < d → nat_abs (S *ℤ y -ℤ f *ℤ pos p) < p
same_gap x y f d p e hp h =
    let k : ℤ = S *ℤ x -ℤ f *ℤ pos d in
    let l : ℤ = S *ℤ y -ℤ f *ℤ pos p in
    let same : d * nat_abs l ≡ p * nat_abs k = sym (abs-* (pos d) l) ∙ ap nat_abs (times (pos d) (pos p) e) ∙ abs-* (pos p) k in
    let less : p * nat_abs k < p * d = mul-lt-mul_of_pos_left h hp in
    lt_of_mul-lt-mul_left d (omega (arith, same, less, mul_comm p d))
  where
    times : (d p : ℤ) → d *ℤ y ≡ p *ℤ x → d *ℤ (S *ℤ y -ℤ f *ℤ p) ≡ p *ℤ (S *ℤ x -ℤ f *ℤ d)
    times d p e =
        ring (d ∷ p ∷ y ∷ f ∷ []) (search shapes depth 12) tt
        ∙ ap (λ (z : ℤ). S *ℤ z -ℤ f *ℤ p *ℤ d) e
        ∙ ring (d ∷ p ∷ x ∷ f ∷ []) (search shapes depth 12) tt

-- less than 1 off in the quotient, at most 2 off in the four entries
near : (adj f E F : ℤ) (d D : ℕ) → 0 < D → nat_abs (S *ℤ adj -ℤ f *ℤ pos d) < d → nat_abs (S *ℤ F -ℤ pos D *ℤ E) ≤ 2 * D
    → nat_abs (pos d *ℤ pos D *ℤ (f -ℤ E) -ℤ S *ℤ (adj *ℤ pos D -ℤ pos d *ℤ F)) < 3 * (d * D)
near adj f E F d D hD off h =
    let k : ℤ = S *ℤ adj -ℤ f *ℤ pos d in
    let l : ℤ = S *ℤ F -ℤ pos D *ℤ E in
    let total = abs-- (pos d *ℤ l) (pos D *ℤ k) in
    let quotient : D * (nat_abs k + 1) ≤ D * d = mul-le-mul_left D (omega arith) in
    let entries : d * nat_abs l ≤ d * (2 * D) = mul-le-mul_left d h in
    rw (apart (pos d) (pos D) adj f E F) (omega (arith, total, abs-* (pos d) l, abs-* (pos D) k, quotient, entries))
  where
    apart : (d D adj f E F : ℤ) → d *ℤ D *ℤ (f -ℤ E) -ℤ S *ℤ (adj *ℤ D -ℤ d *ℤ F) ≡ d *ℤ (S *ℤ F -ℤ D *ℤ E) -ℤ D *ℤ (S *ℤ adj -ℤ f *ℤ d)
    apart d D adj f E F = ring (d ∷ D ∷ adj ∷ f ∷ E ∷ F ∷ []) (search shapes depth 12) tt

-- ════ an entry is at most a half off, and 0 at held components
scaled : (b c : ℕ) (t : ℤ) (D : ℕ) → (b ≡ 0) ⊎ (b ≡ 1) → (c ≡ 0) ⊎ (c ≡ 1) → (b ≡ 1 → c ≡ 1 → 2 * nat_abs t ≤ D) → 2 * nat_abs (pos b *ℤ pos c *ℤ t) ≤ D
scaled b c t D (inl e) q h = let z = abs-* (pos (b * c)) t in let w : b * c ≡ 0 = rw e (omega arith) in rw (z, w) (omega arith)
scaled b c t D (inr e) (inl f) h = let z = abs-* (pos (b * c)) t in let w : b * c ≡ 0 = rw f (omega arith) in rw (z, w) (omega arith)
scaled b c t D (inr e) (inr f) h = let z = abs-* (pos (b * c)) t in let w : b * c ≡ 1 = rw (e, f) refl in let k = h e f in rw (z, w) (omega arith)

together : (u v D z w : ℤ) → S *ℤ (u *ℤ v *ℤ z) -ℤ D *ℤ (u *ℤ v *ℤ w) ≡ u *ℤ v *ℤ (S *ℤ z -ℤ D *ℤ w)
together u v D z w = ring (u ∷ v ∷ D ∷ z ∷ w ∷ []) (search shapes depth 12) tt

four : (A B C E a b c e j D : ℤ)
    → S *ℤ (A +ℤ j *ℤ (B -ℤ C -ℤ E)) -ℤ D *ℤ (a +ℤ j *ℤ (b -ℤ c -ℤ e))
    ≡ (S *ℤ A -ℤ D *ℤ a) +ℤ j *ℤ ((S *ℤ B -ℤ D *ℤ b) -ℤ (S *ℤ C -ℤ D *ℤ c) -ℤ (S *ℤ E -ℤ D *ℤ e))
four A B C E a b c e j D = ring (A ∷ B ∷ C ∷ E ∷ a ∷ b ∷ c ∷ e ∷ j ∷ D ∷ []) (search shapes depth 12) tt

four-near : (p q r s j : ℤ) (D : ℕ) → 2 * nat_abs p ≤ D → 2 * nat_abs q ≤ D → 2 * nat_abs r ≤ D → 2 * nat_abs s ≤ D → nat_abs j ≤ 1 → nat_abs (p +ℤ j *ℤ (q -ℤ r -ℤ s)) ≤ 2 * D
four-near p q r s j D hp hq hr hs hj =
    omega (arith, abs-+ p (j *ℤ (q -ℤ r -ℤ s)), abs-* j (q -ℤ r -ℤ s), mul-le-mul_right (nat_abs (q -ℤ r -ℤ s)) hj, abs-- (q -ℤ r) s, abs-- q r)

module _ (stations : List Station) (m : List ℤ) (Z : ℕ → ℕ → ℤ) (D : ℕ)
    (nearest : (i j : ℕ) → i < unknown_count stations → j < unknown_count stations → 2 * nat_abs (S *ℤ Z i j -ℤ pos D *ℤ by_rows (unknown_count stations) m i j) ≤ D) where
  covariance-near : (q k : ℕ) → q < 96 → k < 96 → 2 * nat_abs (S *ℤ exact_covariance stations Z q k -ℤ pos D *ℤ covariance stations m q k) ≤ D
  unfolding exact_covariance covariance
  covariance-near q k hq hk =
      let i = number stations q in let j = number stations k in
      rw (together (pos (unknown stations q)) (pos (unknown stations k)) (pos D) (Z i j) (get_or m (i * unknown_count stations + j) (pos 0)))
      (scaled (unknown stations q) (unknown stations k) (S *ℤ Z i j -ℤ pos D *ℤ get_or m (i * unknown_count stations + j) (pos 0)) D (unknown_cases stations q) (unknown_cases stations k)
      (λ e f. nearest i j (number_below stations q 96 hq e) (number_below stations k 96 hk f)))

  difference-near : (r : Record) (a : ℕ) → from_of r < 32 → to_of r < 32 → a < 3
      → nat_abs (S *ℤ exact_difference stations Z r a -ℤ pos D *ℤ difference_variance stations m r a) ≤ 2 * D
  unfolding exact_difference difference_variance
  difference-near r a hf ht ha =
      let t = to_of r * 3 + a in let f = from_of r * 3 + a in
      let p : t < 96 = omega arith in let q : f < 96 = omega arith in
      rw (four (exact_covariance stations Z t t) (exact_covariance stations Z f f) (exact_covariance stations Z t f) (exact_covariance stations Z f t)
      (covariance stations m t t) (covariance stations m f f) (covariance stations m t f) (covariance stations m f t) (joins r) (pos D))
      (four-near (S *ℤ exact_covariance stations Z t t -ℤ pos D *ℤ covariance stations m t t) (S *ℤ exact_covariance stations Z f f -ℤ pos D *ℤ covariance stations m f f)
      (S *ℤ exact_covariance stations Z t f -ℤ pos D *ℤ covariance stations m t f) (S *ℤ exact_covariance stations Z f t -ℤ pos D *ℤ covariance stations m f t) (joins r) D
      (covariance-near t t p p) (covariance-near f f q q) (covariance-near t f p q) (covariance-near f t q p) (joins-one r))

-- ════ "q is less than 3 from S times the exact residual variance": of a network by the rules, in each component in which a record by the rules acts
pub variance-near : (net : Network) → network_fits net ≡ true → (places : List Place) (m : List ℤ)
    (g : RoundedInverse (unknown_count net.stations) (entry_n net.stations places) (by_rows (unknown_count net.stations) m))
    (r : Record) → record_fits net r ≡ true → (Q : ℕ → ℕ → ℤ) (p : ℕ) → InverseWeights r Q p → (a : ℕ) → a < 3 → acts a r ≡ true
    → nat_abs (pos p *ℤ pos g.divisor *ℤ residual_variance net.stations m r a -ℤ S *ℤ exact_residual_variance net.stations r Q p g.Z g.divisor a) < 3 * (p * g.divisor)
unfolding residual_variance exact_residual_variance
variance-near net fits places m g r e Q p w a h k =
    let s = sound_record net r fits e in let hf = s.from in let ht = s.to in
    let st = net.stations in
    let own = inverse-weights net r e in
    let d = weight_determinant r in let adj = weight_adjugate r a a in let f = floor_div (S *ℤ adj) d in
    let off = gap (S *ℤ adj) f d (floor_div-≤ (S *ℤ adj) d own.positive) (floor_div-> (S *ℤ adj) d own.positive) in
    rw (observation_quotient r a h k, four-entries st g.Z r a k (omega arith) (omega arith))
    (near (Q a a) f (difference_variance st m r a) (exact_difference st g.Z r a) p g.divisor g.positive
    (same_gap adj (Q a a) f d p (proportional r own w a h k) w.positive off)
    (difference-near st m g.Z g.divisor g.nearest r a hf ht h))
