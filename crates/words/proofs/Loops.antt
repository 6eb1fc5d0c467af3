-- A turn of the loop that fills a slice from words, and of the one that writes words, and its end. Assumes nothing.
use Rattle.std.proofs.Common.{◌≡◌, ◌∙◌, List, ℕ, ◌+◌, ◌*◌, ◌<◌, ◌≤◌, add-one, arith, length, get_or, take, drop, set, take-suc-set, drop-cons, ℤ, pos}
use Rattle.std.proofs.Math.ListN.{drop_of_length-le}
use Rattle.words.specs.Words.{word_at, put_word}
use Rattle.words.specs.Runs.{words_at, put_words}
use Rattle.words.specs.RunLaws.{words_more}

-- the first i of w are the first i words
module _ (s : List ℕ) (at : ℕ) (w : List ℤ) (i : ℕ) (e : take i w ≡ words_at s at i) where
  pub read_turn : (v : ℤ) → i < length w → v ≡ word_at s (at + 8 * i) → take (i + 1) (set w i v) ≡ words_at s at (i + 1)
  read_turn v h p = rw add-one (take-suc-set w i v h ∙ cc (words_more s at i))

-- the rest of ws, from i on, put into t, gives what all of ws, put into s, gives
module _ (s t : List ℕ) (at : ℕ) (ws : List ℤ) (i : ℕ) (e : put_words t (at + 8 * i) (drop i ws) ≡ put_words s at ws) where
  pub write_turn : (u : List ℕ) → i < length ws → u ≡ put_word t (at + 8 * i) (get_or ws i (pos 0)) → put_words u (at + 8 * (i + 1)) (drop (i + 1) ws) ≡ put_words s at ws
  unfolding put_words
  write_turn u h p =
      let next : at + 8 * (i + 1) ≡ at + 8 * i + 8 = omega arith in
      rw (next, p, add-one) (rw (drop-cons ws i (pos 0) h) at e)

  pub write_end : length ws ≤ i → t ≡ put_words s at ws
  unfolding put_words
  write_end h = rw (drop_of_length-le ws h) at e
