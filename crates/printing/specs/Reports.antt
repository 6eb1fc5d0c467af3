-- What a check prints, and what the engine's proposal prints. Assumes nothing.
use Rattle.std.specs.Prelude.{ℕ, ◌≤◌, ◌≡◌, true, cond, List, eqb, ℤ, Ok, Err}
use Rattle.acceptance.specs.Judge.{refusal_number, refusal_unknown, Answer}
use Rattle.book.specs.declared.Book.{Book}
use Rattle.sheet.specs.Sheet.{sheet_words}
use Rattle.checks.specs.Checks.{checked}
use Rattle.text.specs.Writing as writing
use Rattle.printing.specs.Rooms.{sheet_room}
use Rattle.printing.specs.Messages.{refused_text, refused_unknown_text, no_proposal_text}
use Rattle.printing.specs.SheetText.{sheet_text}

-- the printed sheet of a pair
abbrev pub sheet_of : Book → List ℤ → List ℤ → List ℕ
sheet_of b x m = sheet_text (sheet_words b.network b.places x m) b.network.count b.places

-- ════ a check: "A refused … check prints `REFUSED no`, for 11 also the unknown, and ends"
unfoldable pub refusal_says : ℕ → ℕ → List ℕ
refusal_says number unknown = cond (eqb number 11) (refused_unknown_text unknown) (refused_text number)

unfoldable pub answer_says : Answer → List ℕ → List ℕ
answer_says (Ok u) sheet = sheet
answer_says (Err refusal) sheet = refusal_says (refusal_number refusal) (refusal_unknown refusal)

unfoldable pub check_says : Book → List ℤ → List ℤ → List ℕ
check_says b x m = answer_says (checked b x m true) (sheet_of b x m)

-- ════ a proposal: "it is a pair the check accepts, or no proposal"
pub data Offer : Type 0 where
  none : Offer
  pair : List ℤ → List ℤ → Offer

pub data ValidOffer (b : Book) : Offer → Type 0 where
  no_pair : ValidOffer b none
  accepted : {x m : List ℤ} → checked b x m true ≡ Ok tt → ValidOffer b (pair x m)

-- "Without a readable X or M line the engine proposes; with no proposal, `NO PROPOSAL`"
unfoldable pub offer_says : Book → Offer → List ℕ
offer_says b none = no_proposal_text
offer_says b (pair x m) = sheet_of b x m

-- the engine's offer is named, and printed at the front of `before`, which leaves `after`
pub record Reported (b : Book) (before : List ℕ) (next : ℕ) (after : List ℕ) : Type 0 where
  pub offer : Offer
  pub offers : ValidOffer b offer
  pub written : writing.Written before 0 (offer_says b offer) next after
  pub small : next ≤ sheet_room
