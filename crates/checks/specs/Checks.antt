-- The answer to a check, and the sheet afterwards. Assumes nothing.
use Rattle.acceptance.specs.Judge.{Answer}
use Rattle.std.specs.Prelude.{◌^◌, Bool, cond, ◌&&◌, List, ◌++◌, leb, length, drop, ℤ, nat_abs, Ok, Err}
use Rattle.network.specs.declared.Network.{Network}
use Rattle.network.specs.declared.Place.{Place}
use Rattle.normals.specs.Formulas.{entries_fit}
use Rattle.acceptance.specs.Exactly.{answer}
use Rattle.acceptance.specs.declared.Refusal.TheVariants.{TooLarge}
use Rattle.book.specs.declared.Book.{Book}
use Rattle.residuals.specs.Residuals.{T}
use Rattle.sheet.specs.Sheet.{sheet_words, room}

-- ════ 9: "an entry of N or u, or T, beyond ±2^62"
unfoldable pub sizes_fit : Network → List Place → List ℤ → Bool
sizes_fit net places x = entries_fit net.stations places && leb (nat_abs (T net.stations places x)) (2 ^ 62)

-- "A failed test outranks a 9 in a check."
unfoldable pub then_nine : Answer → Bool → Answer
then_nine (Ok u) fits = cond fits (Ok tt) (Err TooLarge)
then_nine (Err refusal) fits = Err refusal

-- ════ the answer; room: the sheet, where one is lent, has room. Its number and values are acceptance's number_of and unknown_of
unfoldable pub checked : Book → List ℤ → List ℤ → Bool → Answer
checked b x m room = then_nine (answer b.network b.places x m room) (sizes_fit b.network b.places x)

-- "the sheet, where one is lent, has room"
abbrev pub has_room : Book → List ℤ → Bool
has_room b sheet = leb (room b.network b.places) (length sheet)

-- ════ the lent words afterwards: "Words beyond stay." "A refusal … changes neither book, history nor sheet."
unfoldable pub on_acceptance : Answer → List ℤ → List ℤ → List ℤ
on_acceptance (Ok u) new old = new
on_acceptance (Err refusal) new old = old

unfoldable pub sheet_after : Book → List ℤ → List ℤ → List ℤ → List ℤ
sheet_after b x m sheet =
    on_acceptance (checked b x m (has_room b sheet)) (sheet_words b.network b.places x m ++ drop (room b.network b.places) sheet) sheet
