-- Files: the bytes that entries give, when bytes read, the entries read, and the latest entry for a place. Assumes nothing.
use Rattle.std.specs.Prelude.{ℕ, zero, suc, ◌+◌, ◌-◌, ◌*◌, ◌/◌, Bool, true, false, cond, ◌&&◌, List, [], ◌∷◌, ◌++◌, length, ℤ, negsuc, ◌==◌, nat_le}
use Rattle.words.specs.Signed.{eq_z, signed}
use Rattle.words.specs.Words.{word_at}
use Rattle.words.specs.Runs.{words_at}
use Rattle.files.specs.Bytes.{bytes_of}
use Rattle.files.specs.Entries.{right_entry, linked_entry, entry_words}

-- ════ written
-- the words of entries that lie end to end, from byte `start` on
unfoldable pub file_words : ℕ → List (List ℤ) → List ℤ
file_words start [] = []
file_words start (e ∷ es) = entry_words start e ++ file_words (start + 128) es

-- the file that writing entries in their order gives
unfoldable pub file_of : List (List ℤ) → List ℕ
file_of es = bytes_of (file_words 0 es)

-- ════ read
-- the 128 bytes from at on have a right kind, place, zeros and sum
unfoldable pub right_at : List ℕ → ℕ → Bool
right_at f at = right_entry (words_at f at 16)

-- "Reading begins at the last byte and follows the trailers back until −1, which must be the entry at byte 0; entries lie end to end":
-- the entry whose last byte is the one before byte e, and those that its trailer leads back to, k of them at most. Its trailer starts 24 bytes before e
-- and says that the entry starts 128 bytes before e; the previous trailer ends where the entry starts
unfoldable pub walks_back : List ℕ → ℕ → ℕ → Bool
walks_back f zero e = false
walks_back f (suc k) e =
    nat_le 128 e
    && right_at f (e - 128)
    && eq_z (word_at f (e - 24)) (signed (e - 128))
    && cond (eq_z (word_at f (e - 16)) (negsuc 0)) (e - 128 == 0) (eq_z (word_at f (e - 16)) (signed (e - 128 - 24)) && walks_back f k (e - 128))

-- "An empty file has no entries"; any other is read from its last byte
unfoldable pub reads : List ℕ → Bool
reads f = cond (length f == 0) true (walks_back f (length f) (length f))

-- n entries' thirteen words, from byte at on
unfoldable pub entries_from : List ℕ → ℕ → ℕ → List (List ℤ)
entries_from f at zero = []
entries_from f at (suc n) = words_at f at 13 ∷ entries_from f (at + 128) n

-- the entries of a file that reads
unfoldable pub entries_of : List ℕ → List (List ℤ)
entries_of f = entries_from f 0 (length f / 128)

-- ════ the same, entry by entry
unfoldable pub linked_at : List ℕ → ℕ → Bool
linked_at f at = linked_entry at (words_at f at 16)

unfoldable pub linked_to : List ℕ → ℕ → Bool
linked_to f zero = true
linked_to f (suc n) = linked_to f n && linked_at f (128 * n)

-- ════ the latest entry for a place
-- among the first n entries: its start; the file's length where there is none
unfoldable pub latest_entry_to : List ℕ → ℤ → ℕ → ℕ
latest_entry_to f p zero = length f
latest_entry_to f p (suc n) = cond (eq_z (word_at f (128 * n + 8)) p) (128 * n) (latest_entry_to f p n)

unfoldable pub latest_entry : List ℕ → ℤ → ℕ
latest_entry f p = latest_entry_to f p (length f / 128)
