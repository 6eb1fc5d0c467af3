-- Salvage of a damaged file: document 02, request 7. "The tool goes forward by steps of 8 bytes. Where 128 bytes have a right kind, place, zeros and sum by CR 6, it keeps the entry and
-- jumps past it; anything else is skipped." Assumes nothing.
use Rattle.std.specs.Prelude.{ℕ, zero, suc, ◌+◌, ◌-◌, ◌*◌, Bool, cond, ◌&&◌, List, [], ◌∷◌, ◌++◌, leb, ltb, length, ℤ, Result, Ok, Err}
use Rattle.words.specs.Signed.{signed}
use Rattle.words.specs.Runs.{words_at, put_words}
use Rattle.files.specs.Files.{right_at, file_words, file_of}
use Rattle.files.specs.declared.FileRefusal.{FileRefusal}
use Rattle.files.specs.declared.FileRefusal.TheVariants.{NoRoom}
use Rattle.salvage.specs.declared.SalvageCounts.{SalvageCounts}

-- ════ what is kept
-- the 128 bytes from byte `at` on lie in f and have a right kind, place, zeros and sum; the two pointers of their trailer count in the sum, and need not be right
unfoldable pub kept_at : List ℕ → ℕ → Bool
kept_at f at = leb (at + 128) (length f) && right_at f at

-- the scan from byte `at` on, in k steps at most: the starts of the entries kept
unfoldable pub scan : List ℕ → ℕ → ℕ → List ℕ
scan f zero at = []
scan f (suc k) at = cond (kept_at f at) (at ∷ scan f k (at + 128)) (scan f k (at + 8))

-- a step goes 8 bytes or more, so that as many steps as there are bytes go to the end
unfoldable pub kept_from : List ℕ → ℕ → List ℕ
kept_from f at = scan f (length f) at

abbrev pub kept_starts : List ℕ → List ℕ
kept_starts f = kept_from f 0

-- "the kept thirteen words, in their order": of the entries that start at these bytes
unfoldable pub entries_at : List ℕ → List ℕ → List (List ℤ)
entries_at f [] = []
entries_at f (k ∷ ks) = words_at f k 13 ∷ entries_at f ks

abbrev pub kept_entries : List ℕ → List (List ℤ)
kept_entries f = entries_at f (kept_starts f)

-- "It writes a fresh file with the kept thirteen words, in their order, and new trailers"
abbrev pub fresh_file : List ℕ → List ℕ
fresh_file f = file_of (kept_entries f)

-- ════ what is skipped: runs of bytes, each by start and length
-- the bytes from a to before b as one run, or none
unfoldable pub run_between : ℕ → ℕ → List (ℕ × ℕ)
run_between a b = cond (ltb a b) ((a, b - a) ∷ []) []

-- "anything else is skipped": from byte `from`, where the last kept entry ended, to each kept entry that starts at one of ks, and to the end
unfoldable pub runs_between : ℕ → List ℕ → ℕ → List (ℕ × ℕ)
runs_between from [] end = run_between from end
runs_between from (k ∷ ks) end = run_between from k ++ runs_between (k + 128) ks end

abbrev pub skipped_runs : List ℕ → List (ℕ × ℕ)
skipped_runs f = runs_between 0 (kept_starts f) (length f)

-- ════ "Two lists of 64-bit words, each by rising start, hold each longest skipped run by start and length, and each kept entry by old and new start"
-- each kept entry by old and new start: the new starts, from byte `new` on, are 128 bytes apart
unfoldable pub kept_pairs : ℕ → List ℕ → List (ℕ × ℕ)
kept_pairs new [] = []
kept_pairs new (k ∷ ks) = (k, new) ∷ kept_pairs (new + 128) ks

-- the words of either list: two for each pair
unfoldable pub pair_words : List (ℕ × ℕ) → List ℤ
pair_words [] = []
pair_words (p ∷ ps) = signed p.0 ∷ signed p.1 ∷ pair_words ps

-- ════ the answer, given the room in bytes for the fresh file and the two lists
-- "both counts are returned"
abbrev pub salvage_counts : List ℕ → SalvageCounts
salvage_counts f = record { skipped = length (skipped_runs f); kept = length (kept_starts f) }

-- 128 bytes an entry, and two words a pair
unfoldable pub room_for : SalvageCounts → ℕ → ℕ → ℕ → Bool
room_for n fresh skipped kept = leb (128 * n.kept) fresh && leb (16 * n.skipped) skipped && leb (16 * n.kept) kept

-- "Refusals: 10 where the output or a list has no room"
unfoldable pub salvage_answer : List ℕ → ℕ → ℕ → ℕ → Result SalvageCounts FileRefusal
salvage_answer f fresh skipped kept = cond (room_for (salvage_counts f) fresh skipped kept) (Ok (salvage_counts f)) (Err NoRoom)

-- the lent bytes afterwards; "then none is written"
unfoldable pub fresh_left : Result SalvageCounts FileRefusal → List ℕ → List ℕ → List ℕ
fresh_left (Ok n) f before = put_words before 0 (file_words 0 (kept_entries f))
fresh_left (Err r) f before = before

unfoldable pub skipped_left : Result SalvageCounts FileRefusal → List ℕ → List ℕ → List ℕ
skipped_left (Ok n) f before = put_words before 0 (pair_words (skipped_runs f))
skipped_left (Err r) f before = before

unfoldable pub kept_left : Result SalvageCounts FileRefusal → List ℕ → List ℕ → List ℕ
kept_left (Ok n) f before = put_words before 0 (pair_words (kept_pairs 0 (kept_starts f)))
kept_left (Err r) f before = before
