-- A record that is not in the adjustment is a check only (document 02, request 2): "its ends have no unknown in any component it acts on". So its rows of A are 0, its share in N and u is 0,
-- its residuals are its misclosures at every x, and their variances those of the observation. A record by the rules whose rows of A are 0 is one. Assumes nothing.
use Prim.Native.Nat.{ℕ, zero, suc, ◌+◌, ◌*◌, ◌<◌}
use Rattle.std.specs.Prelude.{◌≡◌, Bool, true, ◌&&◌, ◌||◌, List, [], ◌∷◌, ◌⊎◌, ℤ, ◌-ℤ◌, ◌*ℤ◌}
use Rattle.std.proofs.Math.Path.{refl, ap}
use Rattle.std.proofs.Common.{sym, ap₂, ◌∙◌, inl, inr, arith, ne_eqb}
use Rattle.std.proofs.Math.Bool.{false}
use Rattle.std.proofs.lemmas.Bool.{eqb-false}
use Rattle.std.proofs.Math.Dec.{eqb}
use Rattle.std.proofs.Math.IntN.{pos, *ℤ-zero, zero-*ℤ}
use Rattle.integers.specs.Solvers.{ring, shapes}
use Rattle.integers.specs.Sums.{sum, sum-ext, sum_0, δ, δ-same, δ_other}
use Rattle.words.specs.Bools.{true_or_false, and_no_left, and_no_right, neither}
use Rattle.words.specs.SignedLaws.{eq_z_false}
use Rattle.network.specs.Stations.{unknown, number, unknown_count}
use Rattle.network.specs.StationLaws.{unknown_cases, number_below, number-apart}
use Rattle.network.specs.Records.{acts, from_of, to_of, joins, l}
use Rattle.network.specs.RecordLaws.{joins_are}
use Rattle.network.specs.RuleLaws.{SoundRecord}
use Rattle.network.specs.declared.Station.{Station}
use Rattle.network.specs.declared.Record.{Record}
use Rattle.normals.specs.Formulas.{A, P, is_unknown, share_n, share_u}
use Rattle.normals.specs.Acting.{A_acting, A_not_acting}
use Rattle.residuals.specs.Residuals.{residual, unknown_at_end, in_adjustment, observation_variance, difference_variance, residual_variance}
use Rattle.residuals.specs.Held.{held_covariance}
use Rattle.residuals.specs.NotActing.{row_zero_residual}

pub record CheckOnly (st : List Station) (r : Record) : Type 0 where
  pub ends : (a : ℕ) → a < 3 → acts a r ≡ true → (unknown st (from_of r * 3 + a) ≡ 0) × (unknown st (to_of r * 3 + a) ≡ 0)
  pub coefficients : (a : ℕ) → a < 3 → (i : ℕ) → A st r a i ≡ pos 0
  -- its share in N and u
  pub matrix : (i j : ℕ) → share_n st r i j ≡ pos 0
  pub right : (i : ℕ) → share_u st r i ≡ pos 0
  -- no correction changes its residuals
  pub residuals : (x : List ℤ) (a : ℕ) → a < 3 → residual st x r a ≡ l st r a
  -- no M changes what they are held against
  pub variances : (m : List ℤ) (a : ℕ) → a < 3 → acts a r ≡ true → residual_variance st m r a ≡ observation_variance r a

none : (a b c : Bool) → a || b || c ≡ false → (a ≡ false) × (b ≡ false) × (c ≡ false)
none a b c e = let p = neither (a || b) c e in let q = neither a b p.0 in (q.0, q.1, p.1)

-- a product with 0 in front
no_product : (w z : ℤ) → pos 0 *ℤ w *ℤ z ≡ pos 0
no_product w z = ring (w ∷ z ∷ []) (search shapes) tt

no_products : (y w z : ℕ → ℕ → ℤ) → ((a b : ℕ) → a < 3 → y a b ≡ pos 0) → sum 3 (λ a. sum 3 (λ b. y a b *ℤ w a b *ℤ z a b)) ≡ pos 0
no_products y w z e = sum-ext 3 (λ a h. sum-ext 3 (λ b k. ap (λ (v : ℤ). v *ℤ w a b *ℤ z a b) (e a b h) ∙ no_product (w a b) (z a b)) ∙ sum_0 3) ∙ sum_0 3

module _ (st : List Station) (r : Record) where
  -- ════ a record that is not in the adjustment
  is_held : (q : ℕ) → eqb (unknown st q) 1 ≡ false → unknown st q ≡ 0
  is_held q e = go (unknown_cases st q)
    where
      go : (unknown st q ≡ 0) ⊎ (unknown st q ≡ 1) → unknown st q ≡ 0
      go (inl u) = u
      go (inr u) = absurd (eqb-false (unknown st q) 1 e u)

  ends_held : (a : ℕ) → acts a r ≡ true → unknown_at_end st r a ≡ false → (unknown st (from_of r * 3 + a) ≡ 0) × (unknown st (to_of r * 3 + a) ≡ 0)
  unfolding unknown_at_end
  ends_held a e n = let both = neither _ _ (rw e at n) in (is_held _ both.0, is_held _ both.1)

  no_unknown : (q i : ℕ) → unknown st q ≡ 0 → is_unknown st q i ≡ pos 0
  unfolding is_unknown
  no_unknown q i u = rw u (zero-*ℤ (δ (number st q) i))

  row_zero : (a i : ℕ) → unknown_at_end st r a ≡ false → A st r a i ≡ pos 0
  row_zero a i n = go (true_or_false (acts a r))
    where
      go : (acts a r ≡ true) ⊎ (acts a r ≡ false) → A st r a i ≡ pos 0
      go (inl e) =
          let u = ends_held a e n in
          A_acting st r a i e
          ∙ ap₂ (λ (t f : ℤ). t -ℤ joins r *ℤ f) (no_unknown (to_of r * 3 + a) i u.1) (no_unknown (from_of r * 3 + a) i u.0)
          ∙ ring (joins r ∷ []) (search shapes) tt
      go (inr e) = A_not_acting st r a i e

  no_difference : (m : List ℤ) (a : ℕ) → unknown st (from_of r * 3 + a) ≡ 0 → unknown st (to_of r * 3 + a) ≡ 0 → residual_variance st m r a ≡ observation_variance r a
  unfolding residual_variance difference_variance
  no_difference m a f t =
      let at = to_of r * 3 + a in
      let from = from_of r * 3 + a in
      rw (held_covariance st at t m at, held_covariance st from f m from, held_covariance st at t m from, held_covariance st from f m at)
      (ring (observation_variance r a ∷ joins r ∷ []) (search shapes) tt)

  nowhere : in_adjustment st r ≡ false → (a : ℕ) → a < 3 → unknown_at_end st r a ≡ false
  unfolding in_adjustment
  nowhere out zero h = (none (unknown_at_end st r 0) (unknown_at_end st r 1) (unknown_at_end st r 2) out).0
  nowhere out (suc zero) h = (none (unknown_at_end st r 0) (unknown_at_end st r 1) (unknown_at_end st r 2) out).1
  nowhere out (suc (suc zero)) h = (none (unknown_at_end st r 0) (unknown_at_end st r 1) (unknown_at_end st r 2) out).2
  nowhere out (suc (suc (suc a))) h = absurd (omega arith)

  pub check_only : in_adjustment st r ≡ false → CheckOnly st r
  unfolding share_n share_u
  check_only out =
      record {
        ends = λ a h e. ends_held a e (nowhere out a h);
        coefficients = zeros;
        matrix = λ i j. no_products (λ a b. A st r a i) (P r) (λ a b. A st r b j) (λ a b h. zeros a h i);
        right = λ i. no_products (λ a b. A st r a i) (P r) (λ a b. l st r b) (λ a b h. zeros a h i);
        residuals = λ x a h. row_zero_residual st r a (zeros a h) x;
        variances = λ m a h e. let u = ends_held a e (nowhere out a h) in no_difference m a u.0 u.1;
      }
    where
      zeros : (a : ℕ) → a < 3 → (i : ℕ) → A st r a i ≡ pos 0
      zeros a h i = row_zero a i (nowhere out a h)

  -- ════ a record by the rules whose rows of A are 0: at an unknown end its row has +1 or −1
  module _ (g : SoundRecord st r) (zeros : (a : ℕ) → a < 3 → (i : ℕ) → i < unknown_count st → A st r a i ≡ pos 0) where
    -- 1 at the unknown q, 0 at another component
    at_self : (q : ℕ) → unknown st q ≡ 1 → is_unknown st q (number st q) ≡ pos 1
    unfolding is_unknown
    at_self q u = rw u (ap (λ (z : ℤ). pos 1 *ℤ z) (δ-same (number st q)))

    at_other : (p q : ℕ) → (p ≡ q → ⊥) → unknown st q ≡ 1 → is_unknown st p (number st q) ≡ pos 0
    unfolding is_unknown
    at_other p q ne u = go (unknown_cases st p)
      where
        go : (unknown st p ≡ 0) ⊎ (unknown st p ≡ 1) → pos (unknown st p) *ℤ δ (number st p) (number st q) ≡ pos 0
        go (inl v) = rw v (zero-*ℤ (δ (number st p) (number st q)))
        go (inr v) = ap (λ (z : ℤ). pos (unknown st p) *ℤ z) (δ_other (number st p) (number st q) (number-apart st p q ne v u)) ∙ *ℤ-zero (pos (unknown st p))

    module _ (a : ℕ) (h : a < 3) (e : acts a r ≡ true) where
      abbrev to : ℕ
      to = to_of r * 3 + a

      abbrev from : ℕ
      from = from_of r * 3 + a

      apart : joins r ≡ pos 1 → from ≡ to → ⊥
      apart one q = go g.apart
        where
          go : (joins r ≡ pos 0) ⊎ (from_of r ≡ to_of r → ⊥) → ⊥
          go (inl j) = eq_z_false (pos 1) (pos 0) refl (sym one ∙ j)
          go (inr ne) = ne (omega arith)

      -- row a of A at the unknown i, from what stands at the two ends
      row_at : (i : ℕ) (j t f : ℤ) → joins r ≡ j → is_unknown st to i ≡ t → is_unknown st from i ≡ f → A st r a i ≡ t -ℤ j *ℤ f
      row_at i j t f o p q = A_acting st r a i e ∙ rw (o, p, q)

      -- where the row is 0 at both
      to_held : eqb (unknown st to) 1 ≡ false
      to_held = ne_eqb _ 1 (λ u. eq_z_false (pos 1) (pos 0) refl (sym (at-to u (joins_are r)) ∙ zeros a h (number st to) (below u)))
        where
          below : unknown st to ≡ 1 → number st to < unknown_count st
          below u = let b = g.to in number_below st (to_of r * 3 + a) 96 (omega arith) u

          at-to : unknown st to ≡ 1 → (joins r ≡ pos 1) ⊎ ((joins r ≡ pos 0) × (from_of r ≡ to_of r)) → A st r a (number st to) ≡ pos 1
          at-to u (inl one) = row_at (number st to) (pos 1) (pos 1) (pos 0) one (at_self _ u) (at_other _ _ (apart one) u)
          at-to u (inr none) = row_at (number st to) (pos 0) (pos 1) _ none.0 (at_self _ u) refl ∙ ring (is_unknown st from (number st to) ∷ []) (search shapes) tt

      from_held : eqb (unknown st from) 1 ≡ false
      from_held = go (joins_are r)
        where
          go : (joins r ≡ pos 1) ⊎ ((joins r ≡ pos 0) × (from_of r ≡ to_of r)) → eqb (unknown st (from_of r * 3 + a)) 1 ≡ false
          go (inl one) = ne_eqb _ 1 (λ u.
              eq_z_false (pos 1) (pos 0) refl
              (ap (λ (z : ℤ). pos 0 -ℤ z) (sym (row_at (number st from) (pos 1) (pos 0) (pos 1) one (at_other _ _ (λ q. apart one (sym q)) u) (at_self _ u))
              ∙ zeros a h (number st from) (let b = g.from in number_below st (from_of r * 3 + a) 96 (omega arith) u))))
          go (inr none) = ap (λ (s : ℕ). eqb (unknown st (s * 3 + a)) 1) none.1 ∙ to_held

    no_end : (a : ℕ) → a < 3 → unknown_at_end st r a ≡ false
    unfolding unknown_at_end
    no_end a h = go (true_or_false (acts a r))
      where
        go : (acts a r ≡ true) ⊎ (acts a r ≡ false) → acts a r && (eqb (unknown st (from_of r * 3 + a)) 1 || eqb (unknown st (to_of r * 3 + a)) 1) ≡ false
        go (inl e) = and_no_right (acts a r) _ (rw (from_held a h e, to_held a h e) refl)
        go (inr e) = and_no_left (acts a r) _ e

    pub rows_zero : in_adjustment st r ≡ false
    unfolding in_adjustment
    rows_zero = rw (no_end 0 (omega arith), no_end 1 (omega arith), no_end 2 (omega arith)) refl
