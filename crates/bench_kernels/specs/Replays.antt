-- What the measured replay settles: the number of the opening, the answers as demand 3 has them, and answers beyond the rows untouched. Assumes nothing.
use Rattle.std.specs.Prelude.{ℕ, ◌≡◌, true, false, List, ℤ, take, drop}
use Rattle.network.specs.Stations.{network_of, opens, open_no}
use Rattle.book.specs.Rows.{rows_in}
use Rattle.book.specs.Demand3.{ledger_answers}
use Rattle.book.specs.Replay.{row_count}

pub record Replays (list words before after : List ℤ) (n : ℕ) : Type 0 where
  pub refusal : n ≡ open_no list
  pub answered : opens list ≡ true → take (row_count words before) after ≡ ledger_answers (network_of list) (rows_in words (row_count words before))
  pub beyond : drop (row_count words before) after ≡ drop (row_count words before) before
  pub unopened : opens list ≡ false → after ≡ before
