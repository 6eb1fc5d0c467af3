-- The entry in force of a night file and a day file. "Given both files, a clerk asks for a place and is shown the entry in force: the latest in the night file
-- if it has one, else the latest in the day file, as that part of whichever file holds it. A latest strike shows its own entry, as struck; a refusal shows an
-- empty part." Assumes nothing.
use Rattle.std.specs.Prelude.{ℕ, ◌+◌, ◌≤◌, cond, ◌&&◌, List, [], length, take, drop, ℤ, pos, int_le, nat_lt, Result, Ok, Err}
use Rattle.files.specs.Files.{reads, latest_entry}
use Rattle.files.specs.declared.FileRefusal.{FileRefusal}
use Rattle.files.specs.declared.FileRefusal.TheVariants.{BadPlace, NoRoom, Unreadable, NotCarried, NoEntry}
use Rattle.files.specs.declared.EntryFound.{EntryFound}
use Rattle.files.specs.declared.EntryFound.TheVariants.{InNight, InDay}

-- "Refusals: 18 either file doesn't read, 19 a record the file can't carry, 20 no entry for the place"; 2 the place is not 1 to 256, "10 (room for less than 128
-- bytes a record)". Theirs is the order in which they are tried
abbrev pub file_number : FileRefusal → ℕ
file_number BadPlace = 2
file_number NoRoom = 10
file_number Unreadable = 18
file_number NotCarried = 19
file_number NoEntry = 20

-- in files that read: night before day
unfoldable pub force_in : List ℕ → List ℕ → ℤ → Result EntryFound FileRefusal
force_in night day p =
    cond (nat_lt (latest_entry night p) (length night)) (Ok (InNight (latest_entry night p)))
    (cond (nat_lt (latest_entry day p) (length day)) (Ok (InDay (latest_entry day p))) (Err NoEntry))

-- "2 comes first, then … 18, … 20"
unfoldable pub in_force : List ℕ → List ℕ → ℤ → Result EntryFound FileRefusal
in_force night day p =
    cond (int_le (pos 1) p && int_le p (pos 256)) (cond (reads night && reads day) (force_in night day p) (Err Unreadable)) (Err BadPlace)

-- what is shown: the entry's 128 bytes of the file that holds it; none where the call is refused
unfoldable pub shown : Result EntryFound FileRefusal → List ℕ → List ℕ → List ℕ
shown (Ok (InNight at)) night day = take 128 (drop at night)
shown (Ok (InDay at)) night day = take 128 (drop at day)
shown (Err r) night day = []

-- where it lies: in the memory of the night slice or of the day slice, `at` past its start; at the start of the night slice where the call is refused
unfoldable pub lies_at : Result EntryFound FileRefusal → ℕ × ℕ → ℕ × ℕ → ℕ × ℕ
lies_at (Ok (InNight at)) night day = (night.0, at + night.1)
lies_at (Ok (InDay at)) night day = (day.0, at + day.1)
lies_at (Err r) night day = night

-- what is found lies in the file that it names; of the files the lengths
unfoldable pub Inside : Result EntryFound FileRefusal → ℕ → ℕ → Type 0
Inside (Ok (InNight at)) night day = at + 128 ≤ night
Inside (Ok (InDay at)) night day = at + 128 ≤ day
Inside (Err r) night day = Unit {0}
