-- Worked examples: a strike's words, its file, and a file of two entries read. Assumes nothing.
use Rattle.std.specs.Prelude.{◌≡◌, true, false, List, [], ◌∷◌, ◌++◌, ℤ, pos, negsuc, refl}
use Rattle.files.specs.Entries.{zeros_from, kind_right, right_words, total, sum_of, previous_trailer, fifteen_words, entry_words}
use Rattle.files.specs.Files.{reads}

-- a strike of place 7: kind 3, place 7, and eleven zeros
abbrev strike7 : List ℤ
strike7 = pos 3 ∷ pos 7 ∷ pos 0 ∷ pos 0 ∷ pos 0 ∷ pos 0 ∷ pos 0 ∷ pos 0 ∷ pos 0 ∷ pos 0 ∷ pos 0 ∷ pos 0 ∷ pos 0 ∷ []

-- first in a file: it starts at 0, there is no trailer before it, and 3 + 7 + 0 − 1 = 9
pub first_strike : entry_words 0 strike7 ≡ strike7 ++ (pos 0 ∷ negsuc 0 ∷ pos 9 ∷ [])
unfolding entry_words fifteen_words previous_trailer sum_of total
first_strike = refl

-- third: it starts at 256, the trailer before it at 232, and 3 + 7 + 256 + 232 = 498
pub third_strike : entry_words 256 strike7 ≡ strike7 ++ (pos 256 ∷ pos 232 ∷ pos 498 ∷ [])
unfolding entry_words fifteen_words previous_trailer sum_of total
third_strike = refl

-- a strike that names a station has a word that it does not use
pub strike_with_from : right_words (pos 3 ∷ pos 7 ∷ pos 1 ∷ pos 0 ∷ pos 0 ∷ pos 0 ∷ pos 0 ∷ pos 0 ∷ pos 0 ∷ pos 0 ∷ pos 0 ∷ pos 0 ∷ pos 0 ∷ []) ≡ false
unfolding right_words kind_right zeros_from
strike_with_from = refl

-- a height difference uses from, to, U and UU
pub height_words : right_words (pos 2 ∷ pos 256 ∷ pos 1 ∷ pos 2 ∷ pos 0 ∷ pos 0 ∷ negsuc 41 ∷ pos 0 ∷ pos 0 ∷ pos 0 ∷ pos 0 ∷ pos 0 ∷ pos 100 ∷ []) ≡ true
unfolding right_words kind_right zeros_from
height_words = refl

pub place_257 : right_words (pos 3 ∷ pos 257 ∷ pos 0 ∷ pos 0 ∷ pos 0 ∷ pos 0 ∷ pos 0 ∷ pos 0 ∷ pos 0 ∷ pos 0 ∷ pos 0 ∷ pos 0 ∷ pos 0 ∷ []) ≡ false
unfolding right_words kind_right zeros_from
place_257 = refl

-- "An empty file has no entries": it reads
pub empty_reads : reads [] ≡ true
unfolding reads
empty_reads = refl
