-- The numbers of document 01's table, as document 02's request 3 amends it, for the calls that src/lib.rt declares. One table, by which the book and
-- the ledger are both judged: it goes by the station list, the record at each place (counted from 0), and the number of edits that can be taken back.
-- Assumes nothing.
use Rattle.std.specs.Prelude.{ℕ, zero, suc, cond, List, eqb, ℤ}
use Rattle.integers.specs.Tables.{tabulate}
use Rattle.words.specs.Signed.{index_in}
use Rattle.network.specs.Units.{place_count}
use Rattle.network.specs.Records.{is_empty}
use Rattle.network.specs.Rules.{in_list, record_no}
use Rattle.network.specs.declared.Network.{Network}
use Rattle.network.specs.declared.Place.{Place}
use Rattle.network.specs.declared.Record.{Record}
use Rattle.network.specs.declared.Record.TheVariants.{Empty}
use Rattle.normals.specs.Formulas.{entries_fit}
use Rattle.book.specs.declared.Change.{Change}
use Rattle.book.specs.declared.Change.TheVariants.{Enter, Strike}
use Rattle.book.specs.declared.Call.{Call}
use Rattle.book.specs.declared.Call.TheVariants.{Edit, Undo}

-- "Each accepted edit goes on the history, which keeps the latest 64": how many can be taken back at most
abbrev pub history_size : ℕ
history_size = 64

-- the place that a number of 1 to 256 names, counted from 0; 256 for any other number
abbrev pub place_of : ℤ → ℕ
place_of p = index_in p place_count

-- "Where several apply, the lowest number wins; where none does, the call is not refused": 0 is no refusal
unfoldable pub first : ℕ → ℕ → ℕ
first zero n = n
first (suc m) n = suc m

-- 2, of an enter or a strike: "place not 1 to 256"
unfoldable pub place_no : ℤ → ℕ
place_no p = cond (in_list place_count p) 0 2

-- "7 now means a strike of an empty place, nothing else."
unfoldable pub empty_no : Record → ℕ
empty_no r = cond (is_empty r) 7 0

-- "8 | undo | history empty"
unfoldable pub undo_no : ℕ → ℕ
undo_no zero = 8
undo_no (suc n) = 0

-- the records with r at place p
unfoldable pub changed : (ℕ → Record) → ℕ → Record → ℕ → Record
changed at p r k = cond (eqb k p) r (at k)

-- the 256 places that hold them
abbrev pub places_of : (ℕ → Record) → List Place
places_of at = tabulate place_count (λ p. record { entry = at p })

-- 9, of an enter: "an entry of N or u … beyond ±2^62", of the records with r at place p
unfoldable pub size_no : Network → (ℕ → Record) → ℕ → Record → ℕ
size_no net at p r = cond (entries_fit net.stations (places_of (changed at p r))) 0 9

-- the number of a change to place p: "One "enter" fills or overwrites", so it does not look at what the place holds
unfoldable pub change_no : Network → (ℕ → Record) → ℕ → Change → ℕ
change_no net at p (Enter r) = first (record_no net r) (size_no net at p r)
change_no net at p Strike = empty_no (at p)

-- the number of a call
unfoldable pub call_no : Network → (ℕ → Record) → ℕ → Call → ℕ
call_no net at count (Edit p c) = first (place_no p) (change_no net at (place_of p) c)
call_no net at count Undo = undo_no count

-- what an accepted change puts at its place: the record that an enter gives, "an empty place for a strike"
unfoldable pub puts : Change → Record
puts (Enter r) = r
puts Strike = Empty

-- a refused call changes nothing
unfoldable pub unless : {A : Type 0} → ℕ → A → A → A
unless zero old new = new
unless (suc n) old new = old
