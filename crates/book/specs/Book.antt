-- The book (document 01's record book): opening, editing and undoing it, and what 25 tests of it. Assumes nothing.
use Rattle.std.specs.Prelude.{ℕ, Bool, true, cond, not, ◌&&◌, List, [], ◌∷◌, ltb, set, replicate, ℤ, pos}
use Rattle.lists.specs.All.{all_below}
use Rattle.network.specs.Units.{most_unknowns, place_count}
use Rattle.network.specs.Stations.{network_of, network_fits, opens}
use Rattle.network.specs.Records.{vacant, record_at, is_empty}
use Rattle.network.specs.Rules.{record_fits}
use Rattle.network.specs.declared.Network.{Network}
use Rattle.network.specs.declared.Record.{Record}
use Rattle.normals.specs.declared.Normals.{Normals}
use Rattle.normals.specs.Formulas.{normals_of, matrix_length}
use Rattle.normals.specs.Same.{same_normals}
use Rattle.book.specs.declared.Reversal.{Reversal}
use Rattle.book.specs.declared.Journal.{Journal}
use Rattle.book.specs.declared.Book.{Book}
use Rattle.book.specs.Outcome.{Outcome}
use Rattle.book.specs.declared.Call.{Call}
use Rattle.book.specs.declared.Call.TheVariants.{Edit, Undo}
use Rattle.book.specs.Calls.{place_of, changed, call_no, puts, unless}
use Rattle.book.specs.Journal.{empty_journal, reversals, pushed, latest, popped, journal_fits}

-- ════ opening: "no records, history empty, N and u 0"
abbrev pub opened_book : Network → Book
opened_book net =
    record {
      network = net;
      places = replicate place_count vacant;
      journal = empty_journal;
      normals = record { matrix = replicate matrix_length (pos 0); right = replicate most_unknowns (pos 0) };
    }

-- "A refused opening makes no book": it gives the book of no stations, which is not sound
abbrev pub opening : List ℤ → Outcome
opening list = cond (opens list) (record { refusal = 0; book = opened_book (network_of list) }) (record { refusal = 1; book = opened_book (network_of []) })

-- ════ editing: the record r at place p, N and u worked out afresh
abbrev pub with_record : Book → ℕ → Record → Normals
with_record b p r = normals_of b.network.stations (set b.places p (record { entry = r }))

-- the book with r at place p, and another journal
abbrev pub with_entry : Book → ℕ → Record → Journal → Book
with_entry b p r j = record { network = b.network; places = set b.places p (record { entry = r }); journal = j; normals = with_record b p r }

abbrev pub edited : Book → ℕ → Record → Book
edited b p r = with_entry b p r (pushed b.journal (record { place = p; prior = record_at b.places p }))

-- "Undo takes the latest off, restores what its place held before, and is not itself an edit to be undone."
abbrev pub undone : Book → Book
undone b = with_entry b (latest b.journal).place (latest b.journal).prior (popped b.journal)

-- "One "enter" fills or overwrites." "Strike empties a filled one"
unfoldable pub book_accepts : Book → Call → Book
book_accepts b (Edit p c) = edited b (place_of p) (puts c)
book_accepts b Undo = undone b

-- the number of a call on a book
abbrev pub book_says : Book → Call → ℕ
book_says b c = call_no b.network (record_at b.places) b.journal.count c

-- what a call answers, and the book afterwards: a refusal gives the book back as it came
abbrev pub settled : ℕ → Book → Book → Outcome
settled n b c = record { refusal = n; book = unless n b c }

abbrev pub outcome : Book → Call → Outcome
outcome b c = settled (book_says b c) b (book_accepts b c)

abbrev pub book_next : Book → Call → Book
book_next b c = (outcome b c).book

-- ════ what 25 tests of a book's value
-- each reversal, the latest first, restores a record by the rules, and none takes an empty place back to empty
unfoldable pub undoable : Network → (ℕ → Record) → List Reversal → Bool
undoable net at [] = true
undoable net at (u ∷ h) =
    ltb u.place place_count && record_fits net u.prior && not (is_empty (at u.place) && is_empty u.prior) && undoable net (changed at u.place u.prior) h

unfoldable pub records_fit : Book → Bool
records_fit b = all_below place_count (λ p. record_fits b.network (record_at b.places p))

unfoldable pub sound : Book → Bool
sound b =
    network_fits b.network
    && records_fit b
    && journal_fits b.journal
    && undoable b.network (record_at b.places) (reversals b.journal)
    -- "N or u not that of the records"
    && same_normals b.normals (normals_of b.network.stations b.places)
