-- The journal (document 01's history): a ring of reversals. `next` is the slot of the next entry, `count` how many can be taken back. Assumes nothing.
use Rattle.std.specs.Prelude.{ℕ, zero, suc, ◌+◌, ◌-◌, ◌%◌, min, Bool, ◌&&◌, ◌||◌, List, [], ◌∷◌, eqb, leb, ltb, get_or, set, replicate}
use Rattle.lists.specs.All.{all_below}
use Rattle.network.specs.Records.{is_empty}
use Rattle.network.specs.declared.Record.TheVariants.{Empty}
use Rattle.book.specs.Calls.{history_size}
use Rattle.book.specs.declared.Reversal.{Reversal}
use Rattle.book.specs.declared.Journal.{Journal}

-- the history's size: "a 65th pushes out the oldest"
abbrev pub journal_size : ℕ
journal_size = history_size

-- ════ the ring's counters: the slot before another, the slot after it, and one edit more, but not above the size
abbrev pub slot_before : ℕ → ℕ
slot_before slot = (slot + (journal_size - 1)) % journal_size

abbrev pub slot_after : ℕ → ℕ
slot_after slot = (slot + 1) % journal_size

abbrev pub one_more : ℕ → ℕ
one_more count = min (count + 1) journal_size

-- how many entries came after that of a slot, where `next` is the slot of the next one
abbrev pub age : ℕ → ℕ → ℕ
age next slot = (next + (journal_size - 1) - slot) % journal_size

-- what a free slot holds
abbrev pub free : Reversal
free = record { place = 0; prior = Empty }

abbrev pub empty_journal : Journal
empty_journal = record { entries = replicate journal_size free; next = 0; count = 0 }

-- the k entries before a slot, the latest first
unfoldable pub entries_before : List Reversal → ℕ → ℕ → List Reversal
entries_before entries slot zero = []
entries_before entries slot (suc k) = get_or entries (slot_before slot) free ∷ entries_before entries (slot_before slot) k

-- the edits that can be taken back, the latest first
abbrev pub reversals : Journal → List Reversal
reversals j = entries_before j.entries j.next j.count

-- an accepted edit goes on
abbrev pub pushed : Journal → Reversal → Journal
pushed j e = record { entries = set j.entries j.next e; next = slot_after j.next; count = one_more j.count }

abbrev pub latest : Journal → Reversal
latest j = get_or j.entries (slot_before j.next) free

-- "Undo takes the latest off": its slot is free again
abbrev pub popped : Journal → Journal
popped j = record { entries = set j.entries (slot_before j.next) free; next = slot_before j.next; count = j.count - 1 }

-- the counters in range, and the slots not in use free
unfoldable pub is_free : Reversal → Bool
is_free u = eqb u.place 0 && is_empty u.prior

-- the slot is among the `count` ones before `next`
abbrev pub in_use : Journal → ℕ → Bool
in_use j slot = ltb (age j.next slot) j.count

unfoldable pub journal_fits : Journal → Bool
journal_fits j = ltb j.next journal_size && leb j.count journal_size && all_below journal_size (λ slot. in_use j slot || is_free (get_or j.entries slot free))
