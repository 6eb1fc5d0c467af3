-- A check distance on a book and a lent pair x, M: its answer, and the number that a C call gives. Assumes nothing.
use Rattle.std.specs.Prelude.{ℕ, ◌*◌, true, List, ℤ, pos, ◌+ℤ◌}
use Rattle.book.specs.declared.Book.{Book}
use Rattle.distances.specs.declared.CheckDistance.{CheckDistance}
use Rattle.distances.specs.Distances.{DistanceAnswer, agrees_at, on_pair, unless_refused, agreement_number, agreement_unknown}
use Rattle.lent_checks.specs.LentChecks.{all_words, checked_lent}

-- "It is asked with a pair x, M that the check accepts": the pair in lent bytes
unfoldable pub agreement_lent : Book → List ℕ → List ℕ → CheckDistance → DistanceAnswer
agreement_lent b x m d = unless_refused b.network d (on_pair (checked_lent b x m true) (agrees_at b.network.stations (all_words x) d))

-- 0 where the distance agrees, −2 where it does not, else the refusal, and for 11 also 256 · the unknown
unfoldable pub agreement_word : DistanceAnswer → ℤ
agreement_word a = agreement_number a +ℤ pos (256 * agreement_unknown a)
