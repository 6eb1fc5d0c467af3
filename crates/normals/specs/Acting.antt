-- Where a record acts its row of A has −1 at from and +1 at to; where it does not, its row of A, its weights and its misclosure are 0, so that nothing there counts. Assumes nothing.
use Rattle.std.specs.Prelude.{ℕ, ◌+◌, ◌*◌, ◌<◌, ◌≡◌, true, false, List, [], ◌∷◌, ◌⊎◌, ℤ, pos, ◌-ℤ◌, ◌*ℤ◌}
use Rattle.std.proofs.Common.{ap₂, ◌∙◌, inl, inr}
use Rattle.integers.specs.Solvers.{ring, shapes}
use Rattle.integers.specs.Sums.{sum, sum-ext}
use Rattle.words.specs.Bools.{true_or_false}
use Rattle.network.specs.Stations.{coordinates}
use Rattle.network.specs.Records.{acts, from_of, to_of, joins, l}
use Rattle.network.specs.RecordLaws.{weight_not_acting, misclosure_at_lem, misclosure_not_acting}
use Rattle.network.specs.declared.Station.{Station}
use Rattle.network.specs.declared.Record.{Record}
use Rattle.normals.specs.Formulas.{P, is_unknown, A}
use Rattle.normals.specs.Symmetry.{P_sym}

module _ (st : List Station) (r : Record) (a i : ℕ) where
  pub A_acting : acts a r ≡ true → A st r a i ≡ is_unknown st (to_of r * 3 + a) i -ℤ joins r *ℤ is_unknown st (from_of r * 3 + a) i
  unfolding A
  A_acting e = rw e

  pub A_not_acting : acts a r ≡ false → A st r a i ≡ pos 0
  unfolding A
  A_not_acting e = rw e

pub P_not_acting : (r : Record) (a b : ℕ) → a < 3 → b < 3 → acts a r ≡ false → P r a b ≡ pos 0
P_not_acting = weight_not_acting

pub l_not_acting : (st : List Station) (r : Record) (a : ℕ) → a < 3 → acts a r ≡ false → l st r a ≡ pos 0
l_not_acting st r a h e = misclosure_at_lem (coordinates st) r a h ∙ misclosure_not_acting (coordinates st) r a e

-- what stands beside the weights counts only where the record acts
pub acting_only : (r : Record) (f g h k : ℕ → ℤ) → ((a : ℕ) → a < 3 → acts a r ≡ true → f a ≡ g a) → ((b : ℕ) → b < 3 → acts b r ≡ true → h b ≡ k b)
    → sum 3 (λ a. sum 3 (λ b. f a *ℤ P r a b *ℤ h b)) ≡ sum 3 (λ a. sum 3 (λ b. g a *ℤ P r a b *ℤ k b))
acting_only r f g h k x y = sum-ext 3 (λ a p. sum-ext 3 (λ b q. go a b p q (true_or_false (acts a r)) (true_or_false (acts b r))))
  where
    nothing : (w : ℤ) (s t u v : ℤ) → w ≡ pos 0 → s *ℤ w *ℤ t ≡ u *ℤ w *ℤ v
    nothing w s t u v e = rw e (ring (s ∷ t ∷ u ∷ v ∷ []) (search shapes) tt)

    go : (a b : ℕ) → a < 3 → b < 3 → (acts a r ≡ true) ⊎ (acts a r ≡ false) → (acts b r ≡ true) ⊎ (acts b r ≡ false) → f a *ℤ P r a b *ℤ h b ≡ g a *ℤ P r a b *ℤ k b
    go a b p q (inl d) (inl e) = ap₂ (λ (s t : ℤ). s *ℤ P r a b *ℤ t) (x a p d) (y b q e)
    go a b p q (inr d) e = nothing (P r a b) (f a) (h b) (g a) (k b) (P_not_acting r a b p q d)
    go a b p q (inl d) (inr e) = nothing (P r a b) (f a) (h b) (g a) (k b) (P_sym r a b p q ∙ P_not_acting r b a q p e)
