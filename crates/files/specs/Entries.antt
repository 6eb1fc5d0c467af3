-- An entry of a file, sixteen 64-bit words. "First thirteen: kind (1 baseline, 2 height difference, 3 strike), place 1 to 256, from, to, three observed
-- values, six weights (EE, EN, EU, NN, NU, UU). … Then a trailer". Here an entry is its thirteen words, and the trailer is worked out. Assumes nothing.
use Rattle.std.specs.Prelude.{◌≡◌, ℕ, zero, suc, ◌+◌, ◌-◌, ◌%◌, ◌^◌, Bool, true, cond, ◌&&◌, List, [], ◌∷◌, ◌++◌, length, take, ℤ, pos, negsuc, FitsSigned, int_le, slice_index_or}
use Rattle.std.specs.Int.{w64}
use Rattle.words.specs.Signed.{eq_z, signed, unsigned}

-- ════ the thirteen words
-- n words from index i on are 0
unfoldable pub zeros_from : List ℤ → ℕ → ℕ → Bool
zeros_from w i zero = true
zeros_from w i (suc n) = eq_z (slice_index_or w i (pos 0)) (pos 0) && zeros_from w (i + 1) n

-- "kind (1 baseline, 2 height difference, 3 strike) … A height difference uses the U and UU words, a strike only its place; unused words are 0"
unfoldable pub kind_right : List ℤ → Bool
kind_right w =
    cond (eq_z (slice_index_or w 0 (pos 0)) (pos 1)) true
    (cond (eq_z (slice_index_or w 0 (pos 0)) (pos 2)) (zeros_from w 4 2 && zeros_from w 7 5)
    (eq_z (slice_index_or w 0 (pos 0)) (pos 3) && zeros_from w 2 11))

-- the first thirteen words of w have a right kind, place and zeros
unfoldable pub right_words : List ℤ → Bool
right_words w = int_le (pos 1) (slice_index_or w 1 (pos 0)) && int_le (slice_index_or w 1 (pos 0)) (pos 256) && kind_right w

-- an entry that a file can carry
pub record EntryFits (e : List ℤ) : Type 0 where
  pub long : length e ≡ 13
  pub words : (i : ℕ) → FitsSigned w64 (slice_index_or e i (pos 0))
  pub right : right_words e ≡ true

-- ════ the trailer
unfoldable pub total : List ℤ → ℕ
total [] = 0
total (w ∷ ws) = unsigned w + total ws

-- "the sum of the fifteen words before it, modulo 2^64"
unfoldable pub sum_of : List ℤ → ℤ
sum_of ws = signed (total ws % 2 ^ 64)

-- "where the previous trailer starts (−1 for the first)", of the entry that starts at byte `start`: a trailer is 24 bytes, and entries lie end to end
unfoldable pub previous_trailer : ℕ → ℤ
previous_trailer zero = negsuc 0
previous_trailer (suc n) = signed (suc n - 24)

-- the first fifteen words of the entry e that starts at byte `start`: "Then a trailer that points back: where this entry starts, where the previous trailer starts"
unfoldable pub fifteen_words : ℕ → List ℤ → List ℤ
fifteen_words start e = e ++ (signed start ∷ previous_trailer start ∷ [])

-- all sixteen
unfoldable pub entry_words : ℕ → List ℤ → List ℤ
entry_words start e = fifteen_words start e ++ (sum_of (fifteen_words start e) ∷ [])

-- ════ tests of sixteen words
-- a right kind, place, zeros and sum
unfoldable pub right_entry : List ℤ → Bool
right_entry w = right_words w && eq_z (slice_index_or w 15 (pos 0)) (sum_of (take 15 w))

-- and a trailer that points to byte `start` and to the trailer before it
unfoldable pub linked_entry : ℕ → List ℤ → Bool
linked_entry start w = right_entry w && eq_z (slice_index_or w 13 (pos 0)) (signed start) && eq_z (slice_index_or w 14 (pos 0)) (previous_trailer start)
