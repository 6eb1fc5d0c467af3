-- The end of an input with what is held of a line. Assumes nothing.
use Rattle.std.specs.Prelude.{ℕ, ◌+◌, ◌≤◌, ◌≡◌, List, ◌++◌, take, drop}
use Rattle.text.specs.Lines.{KeptLine, last_kept}
use Rattle.printing.specs.Rooms.{sheet_room, line_room}
use Rattle.printing.specs.Reports.{Offer}
use Rattle.input_lines.specs.Runs.{Run, run_after, says_all}
use Rattle.adjustment.specs.Ends.{end_says, OffersAt}

-- what a last line and the end print at most
abbrev pub end_room : ℕ
end_room = line_room + sheet_room

-- the end of the input with k held of a line: where that is a line, one that lacks its LF, it is obeyed first. What it and the end print stands at the
-- front of `before`, which leaves `after`
pub record Concludes (r : Run) (k : KeptLine) (before : List ℕ) (next : ℕ) (after : List ℕ) : Type 0 where
  pub offer : Offer
  pub offers : OffersAt (run_after r (last_kept k)) offer
  pub printed : take next after ≡ says_all r (last_kept k) ++ end_says (run_after r (last_kept k)) offer
  pub beyond : drop next after ≡ drop next before
  pub small : next ≤ end_room
