-- The eight bytes of a word, as std's `from_le_bytes` and `to_le_bytes` have them. Assumes nothing.
use Rattle.std.proofs.Common.{◌≡◌, refl, sym, ap, ◌∙◌, List, get_or, length, take, drop, set, ℕ, zero, suc, ◌+◌, ◌-◌, ◌/◌, ◌%◌, ◌^◌, ◌<◌, ◌≤◌, ℤ, pos, negsuc, arith, add-one, add_assoc}
use Rattle.std.proofs.Math.Nat.{div-div-eq-div-mul, pow-suc}
use Rattle.std.proofs.lemmas.List.{get_or-take, get_or-drop}
use Rattle.std.proofs.lemmas.List.Edits.{sets}
use Rattle.std.specs.Int.{w64, cast_signed, cast_unsigned, byte_at, bytes_low_first, from_le_bytes, to_le_bytes}
use Rattle.std.specs.Prelude.{Result, Ok, MatchResult}
use Rattle.std.specs.Array.{IsWholeChunk}
use Rattle.words.specs.Parts.{put_mid-sets}
use borrow.Rule.Slice.PartMut.{put_mid}
use Rattle.words.specs.Signed.{signed, unsigned}
use Rattle.words.specs.Words.{number_at, word_at, put_number, put_word}

-- what `try_from` gives of eight bytes
pub whole : {E : Type 0} (xs ys : List ℕ) (n : ℕ) (r : Result (List ℕ) E) (Q : E → Type 0) → MatchResult r (λ y. IsWholeChunk xs y n) Q → r ≡ Ok ys → ys ≡ xs
whole xs ys n r Q h e = let w : IsWholeChunk xs ys n = rw e at h in w.same

-- ---- read: bs are the eight bytes from index `at` on
module _ (s bs : List ℕ) (at : ℕ) (e : bs ≡ take (at + 8 - at) (drop at s)) where
  byte : (i : ℕ) → i < 8 → get_or bs i 0 ≡ get_or s (at + i) 0
  byte i h = rw e (get_or-take (at + 8 - at) (drop at s) i 0 (omega arith) ∙ get_or-drop at s i 0)

  number : from_le_bytes w64 bs ≡ number_at s at 8
  unfolding number_at
  number =
      let first : get_or bs 0 0 ≡ get_or s at 0 = byte 0 (omega arith) ∙ ap (λ (k : ℕ). get_or s k 0) (omega arith) in
      simp add_assoc (omega (arith, first, byte 1 (omega arith), byte 2 (omega arith), byte 3 (omega arith), byte 4 (omega arith), byte 5 (omega arith), byte 6 (omega arith), byte 7 (omega arith)))

  pub read : (v : ℤ) → v ≡ cast_signed w64 (from_le_bytes w64 bs) → v ≡ word_at s at
  unfolding word_at
  read v p = p ∙ ap (λ (n : ℕ). signed n) number

-- ---- written
digit : (i n : ℕ) → byte_at i n ≡ n / 256 ^ i % 256
digit zero n = omega arith
digit (suc i) n = refl

number_sets : (s : List ℕ) (at k i n m : ℕ) → n ≡ m / 256 ^ i → put_number s at k n ≡ sets s at (bytes_low_first i k m)
unfolding put_number
number_sets s at zero i n m e = refl
number_sets s at (suc k) i n m e =
    let next : n / 256 ≡ m / 256 ^ suc i = rw (e, pow-suc) (div-div-eq-div-mul m (256 ^ i) 256) in
    rw (add-one, digit i m, ← e) (number_sets (set s at (n % 256)) (suc at) k (suc i) (n / 256) m next)

unsigned_is : (v : ℤ) → cast_unsigned w64 v ≡ unsigned v
unsigned_is (pos n) = refl
unsigned_is (negsuc k) = refl

pub written : (s bs : List ℕ) (at : ℕ) (v : ℤ) → at + 8 ≤ length s → bs ≡ to_le_bytes w64 (cast_unsigned w64 v) → put_mid at (at + 8 - at) s bs ≡ put_word s at v
unfolding put_word
written s bs at v h e =
    let long : at + 8 - at ≡ 8 = omega arith in
    rw (e, unsigned_is v, long) (put_mid-sets s (to_le_bytes w64 (unsigned v)) at 8 h refl ∙ sym (number_sets s at 8 0 (unsigned v) (unsigned v) (omega arith)))
