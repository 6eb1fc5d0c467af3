-- The room that a printed line or the whole sheet takes, in bytes: at most so many. Assumes nothing.
use Rattle.std.specs.Prelude.{ℕ, ◌+◌, ◌*◌}
use Rattle.text.specs.Writing.{natural_room, number_room}

-- a number with the blank after it
abbrev pub field_room : ℕ
field_room = number_room + 1

-- `LOOSE`
abbrev pub verdict_room : ℕ
verdict_room = 5

-- ════ the lines of a sheet, each with its LF
-- `SHEET ` n ` RECORDS ` n ` UNKNOWNS`
abbrev pub head_room : ℕ
head_room = 6 + number_room + 9 + number_room + 10

-- seven numbers
abbrev pub station_room : ℕ
station_room = 7 * field_room

-- four numbers, three verdicts
abbrev pub baseline_room : ℕ
baseline_room = 4 * field_room + 3 * (verdict_room + 1)

-- two numbers, a verdict
abbrev pub height_room : ℕ
height_room = 2 * field_room + verdict_room + 1

-- `GLOBAL `, two numbers, a verdict
abbrev pub global_room : ℕ
global_room = 7 + 2 * field_room + verdict_room + 1

-- the longest sheet: 32 stations, 256 baselines
abbrev pub sheet_room : ℕ
sheet_room = head_room + 32 * station_room + 256 * baseline_room + global_room

-- the words of the longest sheet: two counts, 7 for each of 32 stations and 256 baselines, and 3 of the global test
abbrev pub longest_sheet : ℕ
longest_sheet = 2 + 32 * 7 + 256 * 7 + 3

-- ════ messages, each with its LF
-- `LINE ` k ` REFUSED ` no, the longest
abbrev pub message_room : ℕ
message_room = 5 + natural_room + 9 + natural_room + 1

-- `LINE ` k ` UNREADABLE`
abbrev pub unreadable_room : ℕ
unreadable_room = 5 + natural_room + 12

-- `REFUSED ` no
abbrev pub refused_room : ℕ
refused_room = 8 + natural_room + 1

-- `REFUSED 11 ` unknown
abbrev pub refused_unknown_room : ℕ
refused_unknown_room = 11 + natural_room + 1

-- `NO PROPOSAL`
abbrev pub no_proposal_room : ℕ
no_proposal_room = 12

-- ════ what a line of the input prints at most: a refused opening's message, and its own
abbrev pub line_room : ℕ
line_room = refused_room + message_room
