-- Runs of words: words one after another in a list of bytes, from the byte at index `at` on. Assumes nothing.
use Rattle.std.specs.Prelude.{ℕ, zero, suc, ◌+◌, List, [], ◌∷◌, ℤ}
use Rattle.words.specs.Words.{word_at, put_word}

-- the n words of s from at on
unfoldable pub words_at : List ℕ → ℕ → ℕ → List ℤ
words_at s at zero = []
words_at s at (suc n) = word_at s at ∷ words_at s (at + 8) n

-- s with the words ws from at on
unfoldable pub put_words : List ℕ → ℕ → List ℤ → List ℕ
put_words s at [] = s
put_words s at (w ∷ ws) = put_words (put_word s at w) (at + 8) ws
