-- What the print of a whole text leaves in a lent buffer. Assumes nothing.
use Rattle.std.specs.Prelude.{ℕ, ◌+◌, ◌*◌, ◌≤◌, ◌≡◌, Bool, true, false, List, Option, Some, None, leb, length, take, drop}
use Rattle.printing.specs.Rooms.{line_room}
use Rattle.night_print.specs.Closing.{end_room}
use Rattle.night_print.specs.Print.{Prints}

-- the text's print stands at the front of `before`, which leaves `after`; bytes beyond stay
pub record PrintsAll (text before : List ℕ) (n : ℕ) (after : List ℕ) : Type 0 where
  pub prints : Prints text (take n after)
  pub beyond : drop n after ≡ drop n before
  pub within : n ≤ length after

-- room for whatever a text prints: what a line may print for each of its bytes, and the last line and the end
abbrev pub print_room : List ℕ → List ℕ → Bool
print_room text out = leb (line_room * length text + end_room) (length out)

-- how many bytes it has, or that there is too little room, and then nothing is written
unfoldable pub Printed : List ℕ → List ℕ → Option ℕ → List ℕ → Type 0
Printed text before (Some n) after = (print_room text before ≡ true) × PrintsAll text before n after
Printed text before None after = (print_room text before ≡ false) × (after ≡ before)
