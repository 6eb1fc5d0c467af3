-- The answer looks at N and u below n alone, so the lists that the book keeps give it too.
use Rattle.std.specs.Prelude.{ℕ, ◌<◌, ◌≡◌, Bool, List, ℤ}
use Rattle.network.specs.Units.{most_unknowns}
use Rattle.network.specs.Stations.{unknown_count}
use Rattle.network.specs.declared.Network.{Network}
use Rattle.network.specs.declared.Place.{Place}
use Rattle.normals.specs.ByRules.{ByRules}
use Rattle.normals.specs.Formulas.{matrix_of, right_of}
use Rattle.acceptance.specs.Tests.{at, by_rows}
use Rattle.acceptance.specs.Judge.{judge_numbers, judge}
use Rattle.acceptance.specs.Exactly.{answer, defect-same, residual-same, refinement-same, N-is, u-is}

-- the answer looks at N and u below n alone
pub judge-same : (net : Network) (places : List Place) (N N' : ℕ → ℕ → ℤ) (u u' : ℕ → ℤ)
    → ((i j : ℕ) → i < unknown_count net.stations → j < unknown_count net.stations → N i j ≡ N' i j) → ((i : ℕ) → i < unknown_count net.stations → u i ≡ u' i)
    → (x m : List ℤ) (room : Bool) → judge net places N u x m room ≡ judge net places N' u' x m room
unfolding judge judge_numbers
judge-same net places N N' u u' same side x m room =
    rw (
      defect-same (unknown_count net.stations) N N' (by_rows (unknown_count net.stations) m) u u' (at x) same side,
      residual-same (unknown_count net.stations) N N' (by_rows (unknown_count net.stations) m) u u' (at x) same side,
      refinement-same (unknown_count net.stations) N N' (by_rows (unknown_count net.stations) m) u u' (at x) same side,
    )

-- the lists that the book keeps give the same answer
pub kept-answer : (net : Network) (places : List Place) (g : ByRules net places) (x m : List ℤ) (room : Bool)
    → judge net places (by_rows most_unknowns (matrix_of net.stations places)) (at (right_of net.stations places)) x m room ≡ answer net places x m room
unfolding answer
kept-answer net places g x m room = judge-same net places _ _ _ _ (N-is net places g) (u-is net places g) x m room
