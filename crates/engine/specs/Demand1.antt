-- Demand 1 over the calls in the language, the statement alone (specs/Demand1Holds.antt proves it): every call answers on every input; a refusal gives its number and changes nothing.
-- Document 01: "It changes neither book, history nor sheet. A refused opening makes no book". The crate dombrelat states it again over the C calls. Assumes nothing.
--   opening, outcome      book, specs/Book.antt      what the contracts of `Book::open` and of the edits promise: the answer, and the book afterwards
--   checked, sheet_after   checks, specs/Checks.antt  what those of `check` and `check_sheet` promise; answer_number (acceptance, specs/Judge.antt): the number of an answer
--   agreement             distances, specs/Distances.antt   what that of `check_distance` promises; agreement_number: its number
--   Proposed              specs/Proposals.antt       what that of `propose` promises
use Rattle.std.specs.Prelude.{◌≡◌, true, List, [], ◌∷◌, ℤ, pos, negsuc, ◌≢◌}
use Rattle.acceptance.specs.Judge.{answer_number}
use Rattle.book.specs.declared.Book.{Book}
use Rattle.book.specs.declared.Call.{Call}
use Rattle.book.specs.Calls.{unless}
use Rattle.book.specs.Book.{opening, outcome, sound}
use Rattle.book.specs.Sound.{Sized}
use Rattle.checks.specs.Checks.{checked, has_room, sheet_after}
use Rattle.distances.specs.declared.CheckDistance.{CheckDistance}
use Rattle.distances.specs.Distances.{agreement, agreement_number}
use Rattle.engine.specs.Proposals.{Proposed}
use Rattle.engine.specs.declared.Proposal.{Proposal}
use Rattle.engine.specs.declared.Proposal.TheVariants.{Made, Nothing}

-- ════ a call with all that it is given: a later call joins by a line here, and by one in each definition below
pub data Asked : Type 0 where
  to_open : (list : List ℤ) → Asked
  to_edit : Book → Call → Asked
  to_check : Book → (x m : List ℤ) → Asked
  to_check_sheet : Book → (x m sheet : List ℤ) → Asked
  to_check_distance : Book → (x m : List ℤ) → CheckDistance → Asked
  to_propose : Book → (x m : List ℤ) → Asked

-- the book that a call gives back, if it gives one, and the slices that it is lent to write on
pub record Left : Type 0 where
  pub books : List Book
  pub slices : List (List ℤ)

-- as they came. Slices that are lent to read cannot change; the work slice of a proposal is free
unfoldable pub given : Asked → Left
given (to_open list) = record { books = []; slices = [] }
given (to_edit b c) = record { books = b ∷ []; slices = [] }
given (to_check b x m) = record { books = []; slices = [] }
given (to_check_sheet b x m sheet) = record { books = []; slices = sheet ∷ [] }
given (to_check_distance b x m d) = record { books = []; slices = [] }
given (to_propose b x m) = record { books = []; slices = x ∷ m ∷ [] }

-- ════ the answer r, 0 where the call is not refused, and what it leaves: as the contracts have it. "A refused opening makes no book"; no proposal is −1, a check distance that does not agree −2
unfoldable pub proposal_number : Proposal → ℤ
proposal_number Made = pos 0
proposal_number Nothing = negsuc 0

unfoldable pub Returns : Asked → ℤ → Left → Type 0
Returns (to_open list) r left = (r ≡ pos (opening list).refusal) × (left ≡ record { books = unless (opening list).refusal [] ((opening list).book ∷ []); slices = [] })
Returns (to_edit b c) r left = (r ≡ pos (outcome b c).refusal) × (left ≡ record { books = (outcome b c).book ∷ []; slices = [] })
Returns (to_check b x m) r left = (r ≡ pos (answer_number (checked b x m true))) × (left ≡ record { books = []; slices = [] })
Returns (to_check_sheet b x m sheet) r left = (r ≡ pos (answer_number (checked b x m (has_room b sheet)))) × (left ≡ record { books = []; slices = sheet_after b x m sheet ∷ [] })
Returns (to_check_distance b x m d) r left = (r ≡ agreement_number (agreement b x m d)) × (left ≡ record { books = []; slices = [] })
Returns (to_propose b x m) r left =
    (p : Proposal) × (x' : List ℤ) × (m' : List ℤ)
    × Proposed p (checked b x' m' true) x m x' m' × (r ≡ proposal_number p) × (left ≡ record { books = []; slices = x' ∷ m' ∷ [] })

-- ════ the demand
pub record Demand (asked : Asked) : Type 0 where
  -- every call answers on every input
  pub answers : (r : ℤ) × (left : Left) × Returns asked r left
  -- whatever answer is not 0 leaves the book, its history with it, and every slice as they came
  pub refused : (r : ℤ) (left : Left) → Returns asked r left → (r ≢ pos 0) → left ≡ given asked
  -- an accepted opening or edit gives a book that the next call takes
  pub accepted : (left : Left) (b : Book) → Returns asked (pos 0) left → left.books ≡ b ∷ [] → sound b ≡ true

-- a book that is given to be edited is sound; its arrays have their lengths, as every value of its type has
abbrev pub Demand1 : Type 0
Demand1 = (asked : Asked) → ((b : Book) → (given asked).books ≡ b ∷ [] → (sound b ≡ true) × Sized b) → Demand asked
