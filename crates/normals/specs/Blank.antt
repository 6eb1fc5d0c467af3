-- No records: N and u are 0, which is what an opened book holds. Assumes nothing.
use Rattle.std.specs.Prelude.{ℕ, ◌/◌, ◌%◌, ◌<◌, ◌≡◌, List, [], ◌∷◌, ℤ, pos, ◌*ℤ◌}
use Rattle.std.proofs.Math.Path.{refl, ap}
use Rattle.std.proofs.Common.{◌∙◌}
use Rattle.std.proofs.Math.ListN.{replicate}
use Rattle.integers.specs.Solvers.{ring, shapes}
use Rattle.integers.specs.Sums.{sum, sum-ext, sum_0}
use Rattle.network.specs.Units.{most_unknowns, place_count}
use Rattle.network.specs.Records.{weights, l, record_at}
use Rattle.network.specs.declared.Station.{Station}
use Rattle.network.specs.declared.Place.{Place}
use Rattle.network.specs.declared.Record.{Record}
use Rattle.network.specs.declared.Record.TheVariants.{Empty}
use Rattle.normals.specs.declared.Normals.{Normals}
use Rattle.normals.specs.Formulas.{P, A, share_n, share_u, entry_n, entry_u, normals_of, matrix_length}
use Rattle.normals.specs.FirstPlaces.{zeros-tabulate}

unfoldable pub blank_normals : Normals
blank_normals = record { matrix = replicate matrix_length (pos 0); right = replicate most_unknowns (pos 0) }

module _ (st : List Station) where
  -- any Σ_a Σ_b A_a i · P a b · y b of an empty place
  weightless : (i : ℕ) (y : ℕ → ℤ) → sum 3 (λ a. sum 3 (λ b. A st Empty a i *ℤ P Empty a b *ℤ y b)) ≡ pos 0
  unfolding weights sum
  weightless i y = ring (A st Empty 0 i ∷ A st Empty 1 i ∷ A st Empty 2 i ∷ y 0 ∷ y 1 ∷ y 2 ∷ []) (search shapes depth 12) tt

  pub share_n_empty : (i j : ℕ) → share_n st Empty i j ≡ pos 0
  unfolding share_n
  share_n_empty i j = weightless i (λ b. A st Empty b j)

  pub share_u_empty : (i : ℕ) → share_u st Empty i ≡ pos 0
  unfolding share_u
  share_u_empty i = weightless i (l st Empty)

  module _ (places : List Place) (none : (p : ℕ) → p < place_count → record_at places p ≡ Empty) where
    blank_N : (i j : ℕ) → entry_n st places i j ≡ pos 0
    unfolding entry_n
    blank_N i j = sum-ext place_count (λ p h. ap (λ (r : Record). share_n st r i j) (none p h) ∙ share_n_empty i j) ∙ sum_0 place_count

    blank_u : (i : ℕ) → entry_u st places i ≡ pos 0
    unfolding entry_u
    blank_u i = sum-ext place_count (λ p h. ap (λ (r : Record). share_u st r i) (none p h) ∙ share_u_empty i) ∙ sum_0 place_count

    -- "A run of demand 3 starts from the book that an accepted opening gives: no records, history empty, N and u 0"
    pub blank_is : blank_normals ≡ normals_of st places
    unfolding blank_normals
    blank_is = λ i. record { matrix = matrix i; right = right i }
      where
        matrix : replicate matrix_length (pos 0) ≡ (normals_of st places).matrix
        matrix = zeros-tabulate matrix_length matrix_length _ refl (λ k h. blank_N (k / most_unknowns) (k % most_unknowns))

        right : replicate most_unknowns (pos 0) ≡ (normals_of st places).right
        right = zeros-tabulate most_unknowns most_unknowns _ refl (λ k h. blank_u k)
