-- The entries of N and u as they are kept: where each stands, how many there are, and their sizes. Assumes nothing.
use Rattle.std.specs.Prelude.{ℕ, ◌+◌, ◌*◌, ◌/◌, ◌%◌, ◌<◌, ◌≡◌, List, length, get_or, pos}
use Rattle.std.proofs.Common.{ap₂, ◌∙◌, arith}
use Rattle.integers.specs.Tables.{get_d_tabulate, Within, within-tabulate}
use Rattle.network.specs.Units.{most_unknowns}
use Rattle.network.specs.declared.Network.{Network}
use Rattle.network.specs.declared.Station.{Station}
use Rattle.network.specs.declared.Place.{Place}
use Rattle.normals.specs.declared.Normals.{Normals}
use Rattle.normals.specs.Formulas.{entry_n, entry_u, matrix_of, right_of, matrix_length}
use Rattle.normals.specs.ByRules.{ByRules}
use Rattle.normals.specs.Sizes.{N_entry, u_entry}

-- lists as long as the arrays
pub record SizedNormals (x : Normals) : Type 0 where
  pub matrix : length x.matrix ≡ matrix_length
  pub right : length x.right ≡ most_unknowns

module _ (st : List Station) (places : List Place) where
  pub matrix_at : (i j : ℕ) → i < most_unknowns → j < most_unknowns → get_or (matrix_of st places) (i * most_unknowns + j) (pos 0) ≡ entry_n st places i j
  matrix_at i j h k =
      let inside : i * most_unknowns + j < matrix_length = omega arith in
      let row : (i * most_unknowns + j) / most_unknowns ≡ i = omega arith in
      let column : (i * most_unknowns + j) % most_unknowns ≡ j = omega arith in
      get_d_tabulate matrix_length _ (i * most_unknowns + j) (pos 0) inside ∙ ap₂ (entry_n st places) row column

  pub right_at_lem : (i : ℕ) → i < most_unknowns → get_or (right_of st places) i (pos 0) ≡ entry_u st places i
  right_at_lem i h = get_d_tabulate most_unknowns _ i (pos 0) h

module _ (net : Network) (places : List Place) (g : ByRules net places) where
  pub matrix_within : Within matrix_length 2560000 (matrix_of net.stations places)
  matrix_within = within-tabulate matrix_length 2560000 _ (λ k h. N_entry net places g (k / most_unknowns) (k % most_unknowns))

  pub right_within : Within most_unknowns 768000000000 (right_of net.stations places)
  right_within = within-tabulate most_unknowns 768000000000 _ (λ k h. u_entry net places g k)
