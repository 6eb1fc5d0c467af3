-- Laws of runs of words: lengths, what stays, a run read back, and a run written as it was read. Assumes nothing.
use Rattle.std.specs.Prelude.{◌≡◌, refl, ◌⊎◌, List, [], ◌∷◌, ◌++◌, ℕ, zero, suc, ◌+◌, ◌*◌, ◌<◌, ◌≤◌, length, get_or, ℤ, pos}
use Rattle.std.proofs.Common.{ap, ◌∙◌, inl, inr, arith, ext_get_or, SFits}
use Rattle.std.specs.Int.{w64}
use Rattle.words.specs.Words.{Bytes, word_at, put_word}
use Rattle.words.specs.WordLaws.{length-word, word_back, word_out, word_same, word_kept, word_fits}
use Rattle.words.specs.Runs.{words_at, put_words}

-- ---- lengths
pub length_words : (s : List ℕ) (at n : ℕ) → length (words_at s at n) ≡ n
unfolding words_at
length_words s at zero = refl
length_words s at (suc n) = ap suc (length_words s (at + 8) n)

pub length_run : (s : List ℕ) (at : ℕ) (ws : List ℤ) → length (put_words s at ws) ≡ length s
unfolding put_words
length_run s at [] = refl
length_run s at (w ∷ ws) = length_run (put_word s at w) (at + 8) ws ∙ length-word s at w

-- ---- what is read
-- the word of a run at index i
pub words_at_lem : (s : List ℕ) (at n i : ℕ) → i < n → get_or (words_at s at n) i (pos 0) ≡ word_at s (at + 8 * i)
unfolding words_at
words_at_lem s at zero i h = absurd (none i h)
  where
    none : (i : ℕ) → i < zero → ⊥
    none i h = omega arith
words_at_lem s at (suc n) zero h = ap (word_at s) (omega arith)
words_at_lem s at (suc n) (suc i) h =
    words_at_lem s (at + 8) n i (omega arith) ∙ ap (word_at s) (omega arith)

-- a run is a word more than the run before its last
pub words_more : (s : List ℕ) (at n : ℕ) → words_at s at (suc n) ≡ words_at s at n ++ (word_at s (at + 8 * n) ∷ [])
unfolding words_at
words_more s at zero = ap (λ (k : ℕ). word_at s k ∷ []) (omega arith)
words_more s at (suc n) =
    ap (λ (l : List ℤ). word_at s at ∷ l) (words_more s (at + 8) n ∙ ap (λ (k : ℕ). words_at s (at + 8) n ++ (word_at s k ∷ [])) (omega arith))

-- two lists that agree on the bytes of a run have one run there
pub words_same : (s t : List ℕ) (at n : ℕ) → ((p : ℕ) → at ≤ p → p < at + 8 * n → get_or s p 0 ≡ get_or t p 0) → words_at s at n ≡ words_at t at n
unfolding words_at
words_same s t at zero h = refl
words_same s t at (suc n) h =
    cc (word_same s t at (λ p a b. h p a (omega arith)), words_same s t (at + 8) n (λ p a b. h p (omega arith) (omega arith)))

-- ---- what stays
-- bytes before and beyond a run that was written
pub run_out : (s : List ℕ) (at : ℕ) (ws : List ℤ) (j : ℕ) → (j < at) ⊎ (at + 8 * length ws ≤ j) → get_or (put_words s at ws) j 0 ≡ get_or s j 0
unfolding put_words
run_out s at [] j o = refl
run_out s at (w ∷ ws) j (inl o) = run_out (put_word s at w) (at + 8) ws j (inl (omega arith)) ∙ word_out s at w j (inl o)
run_out s at (w ∷ ws) j (inr o) = run_out (put_word s at w) (at + 8) ws j (inr (omega arith)) ∙ word_out s at w j (inr (omega arith))

-- a run elsewhere, and a word elsewhere
pub run_other : (s : List ℕ) (at : ℕ) (ws : List ℤ) (j n : ℕ) → (j + 8 * n ≤ at) ⊎ (at + 8 * length ws ≤ j) → words_at (put_words s at ws) j n ≡ words_at s j n
run_other s at ws j n (inl o) = words_same _ _ j n (λ p a b. run_out s at ws p (inl (omega arith)))
run_other s at ws j n (inr o) = words_same _ _ j n (λ p a b. run_out s at ws p (inr (omega arith)))

pub run_word : (s : List ℕ) (at : ℕ) (ws : List ℤ) (j : ℕ) → (j + 8 ≤ at) ⊎ (at + 8 * length ws ≤ j) → word_at (put_words s at ws) j ≡ word_at s j
run_word s at ws j (inl o) = word_same _ _ j (λ p a b. run_out s at ws p (inl (omega arith)))
run_word s at ws j (inr o) = word_same _ _ j (λ p a b. run_out s at ws p (inr (omega arith)))

-- ---- there and back
-- a word that fits reads back where it was written
pub run_at : (s : List ℕ) (at : ℕ) (ws : List ℤ) (i : ℕ) → i < length ws → at + 8 * length ws ≤ length s → SFits w64 (get_or ws i (pos 0))
    → word_at (put_words s at ws) (at + 8 * i) ≡ get_or ws i (pos 0)
unfolding put_words
run_at s at [] i h l f = absurd (omega arith)
run_at s at (w ∷ ws) zero h l f =
    let here : at + 8 * 0 ≡ at = omega arith in
    ap (word_at (put_words (put_word s at w) (at + 8) ws)) here
    ∙ run_word (put_word s at w) (at + 8) ws at (inl (omega arith))
    ∙ word_back s at w (omega arith) f
run_at s at (w ∷ ws) (suc i) h l f =
    let there : at + 8 * suc i ≡ at + 8 + 8 * i = omega arith in
    ap (word_at (put_words (put_word s at w) (at + 8) ws)) there
    ∙ run_at (put_word s at w) (at + 8) ws i (omega arith) (omega (arith, length-word s at w)) f

-- the run that was written is read
pub run_back : (s : List ℕ) (at : ℕ) (ws : List ℤ) → at + 8 * length ws ≤ length s → ((i : ℕ) → SFits w64 (get_or ws i (pos 0))) → words_at (put_words s at ws) at (length ws) ≡ ws
run_back s at ws h f =
    let n = length_words (put_words s at ws) at (length ws) in
    ext_get_or (pos 0) _ ws n (λ i l. words_at_lem (put_words s at ws) at (length ws) i (omega arith) ∙ run_at s at ws i (omega arith) h (f i))

-- writing the run that was read changes nothing
pub run_kept : (s : List ℕ) (at n : ℕ) → Bytes s → put_words s at (words_at s at n) ≡ s
unfolding words_at put_words
run_kept s at zero h = refl
run_kept s at (suc n) h = ap (λ (l : List ℕ). put_words l (at + 8) (words_at s (at + 8) n)) (word_kept s at h) ∙ run_kept s (at + 8) n h

-- what is read fits 64 bits
pub words_fit : (s : List ℕ) (at n i : ℕ) → Bytes s → SFits w64 (get_or (words_at s at n) i (pos 0))
unfolding words_at
words_fit s at zero i h = record { sfits = omega arith }
words_fit s at (suc n) zero h = word_fits s at h
words_fit s at (suc n) (suc i) h = words_fit s (at + 8) n i h
