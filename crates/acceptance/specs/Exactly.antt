-- The answer on a book's own N and u, and the tests, which look at them below n alone (proofs/SameAnswer.antt has what follows for the answer).
use Rattle.std.specs.Prelude.{ℕ, ◌*◌, ◌^◌, ◌<◌, ◌≤◌, ◌≡◌, Bool, List, ℤ, ◌-ℤ◌, ◌*ℤ◌}
use Rattle.std.proofs.Math.Path.{ap}
use Rattle.std.proofs.Common.{ap₂, arith}
use Rattle.std.proofs.Math.Dec.{leb}
use Rattle.std.proofs.Math.IntN.{nat_abs}
use Rattle.integers.specs.Sums.{sum-ext, sum_n-ext, δ}
use Rattle.integers.specs.Inverses.{S}
use Rattle.network.specs.Units.{most_unknowns}
use Rattle.network.specs.Stations.{unknown_count}
use Rattle.network.specs.RuleLaws.{sound-stations, network_few}
use Rattle.network.specs.declared.Network.{Network}
use Rattle.network.specs.declared.Place.{Place}
use Rattle.normals.specs.ByRules.{ByRules, record_sound}
use Rattle.normals.specs.Formulas.{entry_n, entry_u, matrix_of, right_of}
use Rattle.normals.specs.Entries.{matrix_at, right_at_lem, matrix_within, right_within}
use Rattle.acceptance.specs.Tests.{at, by_rows, normal_residual, defect_small, residual_small, refinement_small}
use Rattle.acceptance.specs.Judge.{Answer, judge}
use Rattle.acceptance.specs.JudgeLaws.{BookInRange, all_same}

-- ════ the answer on the book's own N = AᵀPA and u = AᵀPl
unfoldable pub answer : Network → List Place → List ℤ → List ℤ → Bool → Answer
answer net places x m room = judge net places (entry_n net.stations places) (entry_u net.stations places) x m room

-- ════ the tests look at N and u below n alone
module _ (n : ℕ) (N N' M : ℕ → ℕ → ℤ) (u u' x : ℕ → ℤ)
    (same : (i j : ℕ) → i < n → j < n → N i j ≡ N' i j) (side : (i : ℕ) → i < n → u i ≡ u' i) where
  pub defect-same : defect_small n N M ≡ defect_small n N' M
  unfolding defect_small
  defect-same =
      all_same n _ _ (λ i l. ap (λ (k : ℕ). leb k (2 ^ 26))
      (sum_n-ext n (λ j h. ap (λ (z : ℤ). nat_abs (S *ℤ δ i j -ℤ z)) (sum-ext n (λ k q. ap (λ (z : ℤ). M i k *ℤ z) (same k j q h))))))

  row_same : (i : ℕ) → i < n → normal_residual n N u x i ≡ normal_residual n N' u' x i
  row_same i l = ap₂ ◌-ℤ◌ (side i l) (sum-ext n (λ j h. ap (λ (z : ℤ). z *ℤ x j) (same i j l h)))

  pub residual-same : residual_small n N u x ≡ residual_small n N' u' x
  unfolding residual_small
  residual-same = all_same n _ _ (λ i l. ap (λ (z : ℤ). leb (nat_abs z) (2 ^ 23)) (row_same i l))

  pub refinement-same : refinement_small n N M u x ≡ refinement_small n N' M u' x
  unfolding refinement_small
  refinement-same =
      all_same n _ _ (λ i l. ap (λ (z : ℤ). leb (nat_abs z) (15 * 2 ^ 26)) (sum-ext n (λ k q. ap (λ (z : ℤ). M i k *ℤ z) (row_same k q))))

module _ (net : Network) (places : List Place) (g : ByRules net places) where
  few : unknown_count net.stations ≤ most_unknowns
  few = (sound-stations net g.network).few

  pub N-is : (i j : ℕ) → i < unknown_count net.stations → j < unknown_count net.stations → by_rows most_unknowns (matrix_of net.stations places) i j ≡ entry_n net.stations places i j
  N-is i j h k = let f = few in matrix_at net.stations places i j (omega arith) (omega arith)

  pub u-is : (i : ℕ) → i < unknown_count net.stations → at (right_of net.stations places) i ≡ entry_u net.stations places i
  u-is i h = let f = few in right_at_lem net.stations places i (omega arith)

  -- what `accept` asks holds of every sound book
  pub book_in_range : BookInRange net places (matrix_of net.stations places) (right_of net.stations places)
  book_in_range =
      record {
        few = few;
        ends = record {
          few = network_few net g.network;
          ends = record { from = λ p h. (record_sound net places g p h).from; to = λ p h. (record_sound net places g p h).to };
        };
        matrix = matrix_within net places g;
        absolute = right_within net places g;
      }
