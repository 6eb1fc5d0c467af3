-- The sheet (document 01's word for what an accepted solution becomes): "The lent sheet takes the night print's numbers in order as 64-bit words …:
-- 5 words, 7 per station, 7 per baseline, 3 per height difference." A position "prints and fills the sheet as a baseline does" (document 02, request 5). Assumes nothing.
use Rattle.std.specs.Prelude.{ℕ, zero, suc, ◌+◌, ◌*◌, cond, List, [], ◌∷◌, ◌++◌, ℤ, pos}
use Rattle.integers.specs.Sums.{sum_n}
use Rattle.network.specs.Units.{place_count}
use Rattle.network.specs.Stations.{unknown_count}
use Rattle.network.specs.Records.{observations, is_empty, record_at}
use Rattle.network.specs.declared.Station.{Station}
use Rattle.network.specs.declared.Network.{Network}
use Rattle.network.specs.declared.Place.{Place}
use Rattle.network.specs.declared.Record.{Record}
use Rattle.residuals.specs.Residuals.{adjusted, variance, residual, residual_variance, record_count, T, D}
use Rattle.residuals.specs.Verdicts.{verdict_word, local_verdict, global_verdict}

module _ (stations : List Station) (x m : List ℤ) where
  -- a station's line: its number, coordinates, variances
  unfoldable pub station_line_words : ℕ → List ℤ
  station_line_words s =
      pos (s + 1)
      ∷ adjusted stations x (s * 3) ∷ adjusted stations x (s * 3 + 1) ∷ adjusted stations x (s * 3 + 2)
      ∷ variance stations m (s * 3) ∷ variance stations m (s * 3 + 1) ∷ variance stations m (s * 3 + 2)
      ∷ []

  -- the local test of component a
  unfoldable pub verdict_at : Record → ℕ → ℤ
  verdict_at r a = verdict_word (local_verdict (residual stations x r a) (residual_variance stations m r a))

  -- a record's line, by the number of components that it observes: "a baseline's line is place, three residuals, three verdicts"; a height difference's is place, residual, verdict; a position prints "as a baseline does"
  unfoldable pub line_words : ℕ → ℕ → Record → List ℤ
  line_words zero p r = []
  line_words (suc zero) p r = pos (p + 1) ∷ residual stations x r 2 ∷ verdict_at r 2 ∷ []
  line_words (suc (suc n)) p r =
      pos (p + 1)
      ∷ residual stations x r 0 ∷ residual stations x r 1 ∷ residual stations x r 2
      ∷ verdict_at r 0 ∷ verdict_at r 1 ∷ verdict_at r 2
      ∷ []

  unfoldable pub record_line_words : ℕ → Record → List ℤ
  record_line_words p r = line_words (observations r) p r

  -- "Stations, then records, print by rising number": the first k of each
  unfoldable pub station_lines_words : ℕ → List ℤ
  station_lines_words zero = []
  station_lines_words (suc k) = station_lines_words k ++ station_line_words k

  unfoldable pub record_lines_words : List Place → ℕ → List ℤ
  record_lines_words places zero = []
  record_lines_words places (suc k) = record_lines_words places k ++ record_line_words k (record_at places k)

-- "GLOBAL", T, D and the verdict
unfoldable pub global_words : List Station → List Place → List ℤ → List ℤ
global_words stations places x = T stations places x ∷ D stations places ∷ verdict_word (global_verdict (T stations places x) (D stations places)) ∷ []

-- the sheet of a network with its records
unfoldable pub sheet_words : Network → List Place → List ℤ → List ℤ → List ℤ
sheet_words net places x m =
    (pos (record_count places) ∷ pos (unknown_count net.stations) ∷ [])
    ++ station_lines_words net.stations x m net.count
    ++ record_lines_words net.stations x m places place_count
    ++ global_words net.stations places x

-- the room that it takes: a record's line has the place, and a residual and a verdict for each component that it observes
unfoldable pub line_length : Record → ℕ
line_length r = cond (is_empty r) 0 (1 + 2 * observations r)

unfoldable pub room : Network → List Place → ℕ
room net places = 5 + 7 * net.count + sum_n place_count (λ p. line_length (record_at places p))
