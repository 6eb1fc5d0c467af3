-- What the code adds for a record is the record's share of AᵀPA and AᵀPl, and its equations fit the code. Assumes nothing.
use Rattle.std.specs.Prelude.{ℕ, zero, suc, ◌+◌, ◌*◌, ◌/◌, ◌%◌, ◌<◌, ◌≤◌, ◌≡◌, refl, true, List, [], ◌∷◌, ◌⊎◌, get_or, ℤ, nat_abs, ◌+ℤ◌, ◌-ℤ◌, ◌*ℤ◌}
use Rattle.std.proofs.Math.Path.{sym, ap}
use Rattle.std.proofs.Common.{ap₂, ◌∙◌, inl, inr, arith}
use Rattle.std.proofs.Math.Decide.{ℕ_discrete}
use Rattle.std.proofs.Math.IntN.{pos, zero-*ℤ, *ℤ-zero}
use Rattle.integers.specs.Solvers.{ring, shapes}
use Rattle.integers.specs.Bounds.{bounds, absle}
use Rattle.integers.specs.Sums.{sum, sum-ext, sum-*r, δ, δ-same, δ_other}
use Rattle.integers.specs.Tables.{get_d_tabulate, Within, within-tabulate}
use Rattle.network.specs.Stations.{unknown, number, unknown_index, unknown_table, index_table, coordinates}
use Rattle.network.specs.StationLaws.{unknown-bit, unknown_cases, number_below}
use Rattle.network.specs.Records.{acts, joins, joins-one, from_of, to_of}
use Rattle.network.specs.RecordLaws.{Observed}
use Rattle.network.specs.RuleLaws.{SoundRecord, SoundStations}
use Rattle.network.specs.declared.Station.{Station}
use Rattle.network.specs.declared.Record.{Record}
use Rattle.normals.specs.declared.Equation.{Equation}
use Rattle.normals.specs.declared.StationUnknowns.{StationUnknowns}
use Rattle.normals.specs.Formulas.{is_unknown, A, share_n, share_u}
use Rattle.normals.specs.Acting.{A_acting, acting_only}
use Rattle.normals.specs.Equations.{EquationInRange, at_of, coef_of, equation_weight, misclosure_of, pair_n, row_n, block_n, weighted, block_u, equation_of}

-- a sum over six ends, by components
by_components : (w Y : ℕ → ℤ) → sum 6 (λ f. w (f % 3) *ℤ Y f) ≡ sum 3 (λ b. w b *ℤ (Y b +ℤ Y (b + 3)))
unfolding sum
by_components w Y = ring (w 0 ∷ w 1 ∷ w 2 ∷ Y 0 ∷ Y 1 ∷ Y 2 ∷ Y 3 ∷ Y 4 ∷ Y 5 ∷ []) (search shapes depth 12) tt

-- entry k of a matrix with rows of 48
pub δ-pair : (a b k : ℕ) → b < 48 → δ (a * 48 + b) k ≡ δ a (k / 48) *ℤ δ b (k % 48)
δ-pair a b k h = go (ℕ_discrete a (k / 48)) (ℕ_discrete b (k % 48))
  where
    go : Dec (a ≡ k / 48) → Dec (b ≡ k % 48) → δ (a * 48 + b) k ≡ δ a (k / 48) *ℤ δ b (k % 48)
    go (yes e) (yes f) =
        let g : a * 48 + b ≡ k = omega arith in
        ap (λ (j : ℕ). δ j k) g ∙ δ-same k ∙ sym (ap₂ ◌*ℤ◌ (ap (λ (j : ℕ). δ j (k / 48)) e ∙ δ-same (k / 48)) (ap (λ (j : ℕ). δ j (k % 48)) f ∙ δ-same (k % 48)))
    go (yes e) (no f) = δ_other (a * 48 + b) k (λ g. f (omega arith)) ∙ sym (ap (λ (z : ℤ). δ a (k / 48) *ℤ z) (δ_other b (k % 48) f) ∙ *ℤ-zero (δ a (k / 48)))
    go (no e) f = δ_other (a * 48 + b) k (λ g. e (omega arith)) ∙ sym (ap (λ (z : ℤ). z *ℤ δ b (k % 48)) (δ_other a (k / 48) e) ∙ zero-*ℤ (δ b (k % 48)))

-- ════ a record's equations by the tables over the components
abbrev pub equation : List Station → Record → Equation
equation st r = equation_of (index_table st) (unknown_table st) (coordinates st) r

-- the unknowns of station s, in E, N, U
abbrev pub unknowns_at : List Station → ℕ → StationUnknowns
unknowns_at st s =
    record {
      at = unknown_index st (s * 3) ∷ unknown_index st (s * 3 + 1) ∷ unknown_index st (s * 3 + 2) ∷ [];
      unknown = pos (unknown st (s * 3)) ∷ pos (unknown st (s * 3 + 1)) ∷ pos (unknown st (s * 3 + 2)) ∷ [];
    }

-- what the code makes of the tables is the record's equations
pub equation_by : {at : List ℕ} {un co : List ℤ} {q : Equation} (st : List Station) (r : Record) → at ≡ index_table st → un ≡ unknown_table st → co ≡ coordinates st
    → q ≡ equation_of at un co r → q ≡ equation st r
equation_by st r a b c e = e ∙ (λ i. equation_of (a i) (b i) (c i) r)

-- the coefficient of end e at the unknown i, and of both ends of component a
abbrev end_at : Equation → ℕ → ℕ → ℤ
end_at q i e = coef_of q e *ℤ δ (at_of q e) i

abbrev row_at : Equation → ℕ → ℕ → ℤ
row_at q i a = end_at q i a +ℤ end_at q i (a + 3)

module _ (st : List Station) where
  -- a held component has the coefficient 0, so its index may be 0 too
  held_or_not : (q i : ℕ) → pos (unknown st q) *ℤ δ (unknown_index st q) i ≡ is_unknown st q i
  unfolding unknown_index is_unknown
  held_or_not q i = go (unknown_cases st q)
    where
      go : (unknown st q ≡ 0) ⊎ (unknown st q ≡ 1) → pos (unknown st q) *ℤ δ (unknown st q * number st q) i ≡ pos (unknown st q) *ℤ δ (number st q) i
      go (inl e) = ap (λ (b : ℕ). pos b *ℤ δ (b * number st q) i) e ∙ zero-*ℤ (δ (0 * number st q) i) ∙ sym (ap (λ (b : ℕ). pos b *ℤ δ (number st q) i) e ∙ zero-*ℤ (δ (number st q) i))
      go (inr e) = let g : unknown st q * number st q ≡ number st q = rw e (omega arith) in ap (λ (j : ℕ). pos (unknown st q) *ℤ δ j i) g

  -- what the tables hold at component q
  table_at : (p q i : ℕ) → p ≡ q → q < 96 → get_or (unknown_table st) p (pos 0) *ℤ δ (get_or (index_table st) p 0) i ≡ is_unknown st q i
  table_at p q i e h =
      ap (λ (j : ℕ). get_or (unknown_table st) j (pos 0) *ℤ δ (get_or (index_table st) j 0) i) e
      ∙ ap₂ ◌*ℤ◌ (get_d_tabulate 96 (λ q. pos (unknown st q)) q (pos 0) h) (ap (λ (j : ℕ). δ j i) (get_d_tabulate 96 (unknown_index st) q 0 h))
      ∙ held_or_not q i

  -- the from end and the to end of one component
  two_ends : (g : ℤ) (p q p' q' i : ℕ) → p ≡ q → q < 96 → p' ≡ q' → q' < 96
      → (pos 0 -ℤ g *ℤ get_or (unknown_table st) p (pos 0)) *ℤ δ (get_or (index_table st) p 0) i +ℤ get_or (unknown_table st) p' (pos 0) *ℤ δ (get_or (index_table st) p' 0) i ≡ is_unknown st q' i -ℤ g *ℤ is_unknown st q i
  two_ends g p q p' q' i e h e' h' =
      ring (g ∷ get_or (unknown_table st) p (pos 0) ∷ δ (get_or (index_table st) p 0) i ∷ get_or (unknown_table st) p' (pos 0) ∷ δ (get_or (index_table st) p' 0) i ∷ []) (search shapes depth 8) tt
      ∙ ap₂ ◌-ℤ◌ (table_at p' q' i e' h') (ap (λ (z : ℤ). g *ℤ z) (table_at p q i e h))

  module _ (r : Record) (hf : from_of r < 32) (ht : to_of r < 32) where
    -- the two ends of component a are row a of A, where the record acts
    ends_A : (i a : ℕ) → a < 3 → acts a r ≡ true → row_at (equation st r) i a ≡ A st r a i
    ends_A i zero h e = two_ends (joins r) (from_of r * 3) (from_of r * 3 + 0) (to_of r * 3) (to_of r * 3 + 0) i (omega arith) (omega arith) (omega arith) (omega arith) ∙ sym (A_acting st r 0 i e)
    ends_A i (suc zero) h e = two_ends (joins r) (from_of r * 3 + 1) (from_of r * 3 + 1) (to_of r * 3 + 1) (to_of r * 3 + 1) i refl (omega arith) refl (omega arith) ∙ sym (A_acting st r 1 i e)
    ends_A i (suc (suc zero)) h e = two_ends (joins r) (from_of r * 3 + 2) (from_of r * 3 + 2) (to_of r * 3 + 2) (to_of r * 3 + 2) i refl (omega arith) refl (omega arith) ∙ sym (A_acting st r 2 i e)
    ends_A i (suc (suc (suc a))) h e = absurd (omega arith)

    -- the share of N
    pub block_share : EquationInRange (equation st r) → (k : ℕ) → block_n (equation st r) k ≡ share_n st r (k / 48) (k % 48)
    unfolding block_n row_n share_n
    block_share g k =
        sum-ext 6 (λ e p.
        sum-ext 6 (λ f o.
        ap (λ (z : ℤ). pair_n q e f *ℤ z) (δ-pair (at_of q e) (at_of q f) k (g.ends f))
        ∙ ring (coef_of q e ∷ equation_weight q (e % 3) (f % 3) ∷ coef_of q f ∷ δ (at_of q e) i ∷ δ (at_of q f) j ∷ []) (search shapes depth 8) tt)
        ∙ sum-*r 6 (end_at q i e) (λ f. equation_weight q (e % 3) (f % 3) *ℤ end_at q j f)
        ∙ ap (λ (z : ℤ). z *ℤ end_at q i e) (by_components (equation_weight q (e % 3)) (end_at q j)))
        ∙ by_components (λ a. sum 3 (λ b. equation_weight q a b *ℤ row_at q j b)) (end_at q i)
        ∙ sum-ext 3 (λ a p. sym (sum-*r 3 (row_at q i a) (λ b. equation_weight q a b *ℤ row_at q j b))
        ∙ sum-ext 3 (λ b o. ring (equation_weight q a b ∷ row_at q j b ∷ row_at q i a ∷ []) (search shapes) tt))
        ∙ acting_only r (row_at q i) (λ a. A st r a i) (row_at q j) (λ b. A st r b j) (ends_A i) (ends_A j)
      where
        q : Equation
        q = equation st r

        i : ℕ
        i = k / 48

        j : ℕ
        j = k % 48

    -- the share of u
    pub block_right : (k : ℕ) → block_u (equation st r) k ≡ share_u st r k
    unfolding block_u weighted share_u
    block_right k =
        sum-ext 6 (λ e p. ring (coef_of q e ∷ weighted q (e % 3) ∷ δ (at_of q e) k ∷ []) (search shapes) tt)
        ∙ by_components (weighted q) (end_at q k)
        ∙ sum-ext 3 (λ a p. sym (sum-*r 3 (row_at q k a) (λ b. equation_weight q a b *ℤ misclosure_of q b))
        ∙ sum-ext 3 (λ b o. ring (equation_weight q a b ∷ misclosure_of q b ∷ row_at q k a ∷ []) (search shapes) tt))
        ∙ acting_only r (row_at q k) (λ a. A st r a k) (misclosure_of q) (misclosure_of q) (ends_A k) (λ b h e. refl)
      where
        q : Equation
        q = equation st r

-- ════ the equations fit the code
module _ (st : List Station) (g : SoundStations st) where
  unknown_index_below : (q : ℕ) → q < 96 → unknown_index st q < 48
  unfolding unknown_index
  unknown_index_below q h = go (unknown_cases st q)
    where
      go : (unknown st q ≡ 0) ⊎ (unknown st q ≡ 1) → unknown st q * number st q < 48
      go (inl e) = rw e (omega arith)
      go (inr e) = rw e (let few = g.few in omega (arith, number_below st q 96 h e))

  number_at : (p : ℕ) → p < 96 → get_or (index_table st) p 0 < 48
  number_at p h = rw (get_d_tabulate 96 (unknown_index st) p 0 h) (unknown_index_below p h)

  pub within_unknowns : Within 96 1 (unknown_table st)
  within_unknowns = within-tabulate 96 1 (λ q. pos (unknown st q)) (λ q h. unknown-bit st q)

  -- a coefficient at a from end
  from_unit : (r : Record) (p : ℕ) → nat_abs (pos 0 -ℤ joins r *ℤ get_or (unknown_table st) p (pos 0)) ≤ 1
  from_unit r p = let h = within_unknowns.bound p in let j = joins-one r in absle (pos 0 -ℤ joins r *ℤ get_or (unknown_table st) p (pos 0)) (search bounds depth 8) (omega arith)

  module _ (r : Record) (s : SoundRecord st r) where
    ends_fit_lem : (e : ℕ) → at_of (equation st r) e < 48
    ends_fit_lem zero = let h = s.from in number_at (from_of r * 3) (omega arith)
    ends_fit_lem (suc zero) = let h = s.from in number_at (from_of r * 3 + 1) (omega arith)
    ends_fit_lem (suc (suc zero)) = let h = s.from in number_at (from_of r * 3 + 2) (omega arith)
    ends_fit_lem (suc (suc (suc zero))) = let h = s.to in number_at (to_of r * 3) (omega arith)
    ends_fit_lem (suc (suc (suc (suc zero)))) = let h = s.to in number_at (to_of r * 3 + 1) (omega arith)
    ends_fit_lem (suc (suc (suc (suc (suc zero))))) = let h = s.to in number_at (to_of r * 3 + 2) (omega arith)
    ends_fit_lem (suc (suc (suc (suc (suc (suc e)))))) = let h : 0 < 48 = omega arith in h

    units_fit : (e : ℕ) → nat_abs (coef_of (equation st r) e) ≤ 1
    units_fit zero = from_unit r (from_of r * 3)
    units_fit (suc zero) = from_unit r (from_of r * 3 + 1)
    units_fit (suc (suc zero)) = from_unit r (from_of r * 3 + 2)
    units_fit (suc (suc (suc zero))) = within_unknowns.bound (to_of r * 3)
    units_fit (suc (suc (suc (suc zero)))) = within_unknowns.bound (to_of r * 3 + 1)
    units_fit (suc (suc (suc (suc (suc zero))))) = within_unknowns.bound (to_of r * 3 + 2)
    units_fit (suc (suc (suc (suc (suc (suc e)))))) = let h : 0 ≤ 1 = omega arith in h

    pub equation-fits : EquationInRange (equation st r)
    equation-fits = record { ends = ends_fit_lem; units = units_fit; weights = s.weight; misclosures = s.misclosure }

    pub is-observed : Observed (coordinates st) r
    is-observed = record { from = s.from; to = s.to; values = s.values; provisional = g.provisional }
