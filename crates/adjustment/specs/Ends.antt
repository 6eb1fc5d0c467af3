-- The end of an input: what it prints. Assumes nothing.
use Rattle.std.specs.Prelude.{ℕ, ◌≤◌, ◌≡◌, List, [], ◌++◌}
use Rattle.book.specs.declared.Book.{Book}
use Rattle.text.specs.Writing as writing
use Rattle.printing.specs.Rooms.{sheet_room}
use Rattle.printing.specs.Reports.{check_says, Offer, ValidOffer, offer_says}
use Rattle.input_lines.specs.Runs.{Phase, unopened, opened, ended, Given, none, given, Run, opening_says, open_run}

-- ════ the end
-- "test 1 judges their counts …, and where only one is given the other is empty"; "Without a readable X or M line the engine proposes"
unfoldable pub book_ends : Given → Given → Book → Offer → List ℕ
book_ends none none b offer = offer_says b offer
book_ends (given x) none b offer = check_says b x []
book_ends none (given m) b offer = check_says b [] m
book_ends (given x) (given m) b offer = check_says b x m

unfoldable pub phase_ends : Given → Given → Phase → Offer → List ℕ
phase_ends x m unopened offer = []
phase_ends x m (opened b) offer = book_ends x m b offer
phase_ends x m ended offer = []

-- "… or the end, opens"; `offer` is what the engine gives, where it is asked
unfoldable pub end_says : Run → Offer → List ℕ
end_says r offer = opening_says r.words r.phase ++ phase_ends r.corrections r.matrix (open_run r).phase offer

-- the engine's offer is named: a pair that the check accepts on the run's book, or none
abbrev pub OffersAt : Run → Offer → Type 0
OffersAt r offer = (b : Book) → (open_run r).phase ≡ opened b → ValidOffer b offer

-- what the end prints of a book
pub record BookEnds (x m : Given) (b : Book) (before : List ℕ) (next : ℕ) (after : List ℕ) : Type 0 where
  pub offer : Offer
  pub offers : ValidOffer b offer
  pub written : writing.Written before 0 (book_ends x m b offer) next after
  pub small : next ≤ sheet_room

-- what the end prints stands at the front of `before`, which leaves `after`
pub record RunEnds (r : Run) (before : List ℕ) (next : ℕ) (after : List ℕ) : Type 0 where
  pub offer : Offer
  pub offers : OffersAt r offer
  pub written : writing.Written before 0 (end_says r offer) next after
  pub small : next ≤ sheet_room
