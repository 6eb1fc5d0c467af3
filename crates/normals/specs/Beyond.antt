-- Entries of N and u beyond the unknowns are 0. Assumes nothing.
use Rattle.std.specs.Prelude.{ℕ, ◌+◌, ◌*◌, ◌<◌, ◌≤◌, ◌≡◌, true, false, List, [], ◌∷◌, ◌⊎◌, ℤ, ◌-ℤ◌, ◌*ℤ◌}
use Rattle.std.proofs.Math.Path.{ap}
use Rattle.std.proofs.Common.{ap₂, ◌∙◌, inl, inr, arith}
use Rattle.std.proofs.Math.IntN.{pos, zero-*ℤ, *ℤ-zero}
use Rattle.integers.specs.Solvers.{ring, shapes}
use Rattle.integers.specs.Sums.{sum, sum-ext, sum_0, δ, δ_other}
use Rattle.words.specs.Bools.{true_or_false}
use Rattle.network.specs.Stations.{unknown, number, unknown_count}
use Rattle.network.specs.StationLaws.{unknown_cases, number_below}
use Rattle.network.specs.Records.{acts, from_of, to_of, joins, l, record_at}
use Rattle.network.specs.RuleLaws.{SoundRecord}
use Rattle.network.specs.declared.Network.{Network}
use Rattle.network.specs.declared.Station.{Station}
use Rattle.network.specs.declared.Place.{Place}
use Rattle.network.specs.declared.Record.{Record}
use Rattle.normals.specs.Formulas.{P, is_unknown, A, share_n, share_u, entry_n, entry_u}
use Rattle.normals.specs.Acting.{A_acting, A_not_acting}
use Rattle.normals.specs.ByRules.{ByRules, record_sound}
use Rattle.normals.specs.Symmetry.{N_sym}

-- a sum of zeros
none : (n : ℕ) (f : ℕ → ℤ) → ((i : ℕ) → i < n → f i ≡ pos 0) → sum n f ≡ pos 0
none n f h = sum-ext n h ∙ sum_0 n

module _ (st : List Station) (i : ℕ) (h : unknown_count st ≤ i) where
  not_unknown : (q : ℕ) → q < 96 → is_unknown st q i ≡ pos 0
  unfolding is_unknown
  not_unknown q o = go (unknown_cases st q)
    where
      go : (unknown st q ≡ 0) ⊎ (unknown st q ≡ 1) → pos (unknown st q) *ℤ δ (number st q) i ≡ pos 0
      go (inl e) = ap (λ (b : ℕ). pos b *ℤ δ (number st q) i) e ∙ zero-*ℤ (δ (number st q) i)
      go (inr e) =
          let b : number st q < number st 96 = number_below st q 96 o e in
          ap (λ (z : ℤ). pos (unknown st q) *ℤ z) (δ_other (number st q) i (λ w. omega arith)) ∙ *ℤ-zero (pos (unknown st q))

  module _ (r : Record) (g : SoundRecord st r) where
    A-beyond : (a : ℕ) → a < 3 → A st r a i ≡ pos 0
    A-beyond a o = go (true_or_false (acts a r))
      where
        go : (acts a r ≡ true) ⊎ (acts a r ≡ false) → A st r a i ≡ pos 0
        go (inl e) =
            let f = g.from in
            let t = g.to in
            A_acting st r a i e
            ∙ ap₂ (λ (x y : ℤ). x -ℤ joins r *ℤ y) (not_unknown (to_of r * 3 + a) (omega arith)) (not_unknown (from_of r * 3 + a) (omega arith))
            ∙ ring (joins r ∷ []) (search shapes) tt
        go (inr e) = A_not_acting st r a i e

    -- any Σ_a Σ_b A_a i · P a b · y b
    nothing : (y : ℕ → ℤ) → sum 3 (λ a. sum 3 (λ b. A st r a i *ℤ P r a b *ℤ y b)) ≡ pos 0
    nothing y =
        none 3 _ (λ a o. none 3 _ (λ b k. ap (λ (z : ℤ). z *ℤ P r a b *ℤ y b) (A-beyond a o) ∙ ring (P r a b ∷ y b ∷ []) (search shapes) tt))

    pub share_n-beyond : (j : ℕ) → share_n st r i j ≡ pos 0
    unfolding share_n
    share_n-beyond j = nothing (λ b. A st r b j)

    pub share_u-beyond : share_u st r i ≡ pos 0
    unfolding share_u
    share_u-beyond = nothing (l st r)

-- document 01's unknowns are those below unknown_count
module _ (net : Network) (places : List Place) (g : ByRules net places) (i : ℕ) (h : unknown_count net.stations ≤ i) where
  pub row_beyond : (j : ℕ) → entry_n net.stations places i j ≡ pos 0
  unfolding entry_n
  row_beyond j = none 256 _ (λ p o. share_n-beyond net.stations i h (record_at places p) (record_sound net places g p o) j)

  pub column-beyond : (j : ℕ) → entry_n net.stations places j i ≡ pos 0
  column-beyond j = N_sym net.stations places j i ∙ row_beyond j

  pub u-beyond : entry_u net.stations places i ≡ pos 0
  unfolding entry_u
  u-beyond = none 256 _ (λ p o. share_u-beyond net.stations i h (record_at places p) (record_sound net places g p o))
