-- Document 01's plain ledger, by which demand 3 measures the book; of enters, strikes and undos since document 02's request 3. "It is fed the opened
-- station list and each call with its arguments other than the book, and nothing else." It knows nothing of how a book is kept. Assumes nothing.
use Rattle.std.specs.Prelude.{ℕ, ◌+◌, ◌-◌, min, cond, List, [], ◌∷◌, eqb}
use Rattle.network.specs.declared.Network.{Network}
use Rattle.network.specs.declared.Record.{Record}
use Rattle.network.specs.declared.Record.TheVariants.{Empty}
use Rattle.normals.specs.declared.Normals.{Normals}
use Rattle.normals.specs.Formulas.{normals_of}
use Rattle.book.specs.declared.Call.{Call}
use Rattle.book.specs.declared.Call.TheVariants as call
use Rattle.book.specs.Calls.{history_size, place_of, places_of, call_no, puts, unless}

-- a standing edit: a place, counted from 0, and what it puts there: the record that an enter gives, "an empty place for a strike"
pub record StandingEdit : Type 0 where
  pub place : ℕ
  pub puts : Record

-- "It has a list of standing edits, empty at first, and a count, 0 at first, of those that can still be taken back." The list is kept with its end in front
pub record Ledger : Type 0 where
  pub edits : List StandingEdit
  pub count : ℕ

abbrev pub empty_ledger : Ledger
empty_ledger = record { edits = []; count = 0 }

-- "Its record at a place is what the last standing edit of that place puts there … Where no standing edit names the place, it is empty."
unfoldable pub standing : List StandingEdit → ℕ → Record
standing [] p = Empty
standing (e ∷ l) p = cond (eqb p e.place) e.puts (standing l p)

-- "Its N and u are those of its records by the formulas above."
abbrev pub ledger_normals : Network → Ledger → Normals
ledger_normals net l = normals_of net.stations (places_of (standing l.edits))

-- an accepted enter or strike "goes to the end of the list; the count rises by one, but not above 64."
abbrev pub appended : Ledger → ℕ → Record → Ledger
appended l p r = record { edits = record { place = p; puts = r } ∷ l.edits; count = min (l.count + 1) history_size }

abbrev pub rest : List StandingEdit → List StandingEdit
rest [] = []
rest (e ∷ l) = l

-- "An accepted undo takes the last edit off the list; the count falls by one."
unfoldable pub accepted : Ledger → Call → Ledger
accepted l (call.Edit p c) = appended l (place_of p) (puts c)
accepted l call.Undo = record { edits = rest l.edits; count = l.count - 1 }

-- "A call that the table below … refuses, judged on the ledger, with the history empty at count 0, is answered with that number and changes nothing.
-- Every other call is accepted." An accepted call is answered 0
abbrev pub ledger_says : Network → Ledger → Call → ℕ
ledger_says net l c = call_no net (standing l.edits) l.count c

abbrev pub ledger_next : Network → Ledger → Call → Ledger
ledger_next net l c = unless (ledger_says net l c) l (accepted l c)
