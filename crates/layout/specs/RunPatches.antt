-- Runs of words cut in parts: a part of a run that is read, a run written part by part, and one part of a run, one word or all of it written anew. Assumes nothing.
use Prim.Native.Nat.{ℕ, zero, suc, ◌+◌, ◌*◌, ◌/◌, ◌%◌, ◌<◌, ◌≤◌}
use Rattle.std.specs.Prelude.{◌≡◌, refl, ◌⊎◌, get_or, take, drop, set, ℤ, pos}
use Rattle.std.proofs.Math.Path.{sym, ap}
use Rattle.std.proofs.Common.{◌∙◌, inl, inr, arith, length-drop, length-take-le, get_or-take, get_or-drop, get_or-set_same, get_or-set_other}
use mathlib.Core.List.{List, [], ◌∷◌, ◌++◌, append-nil}
use Rattle.std.proofs.Math.Decide.{dec_lt, ℕ_discrete}
use Rattle.std.proofs.Math.ListN.{length, length-set}
use Rattle.std.proofs.Math.Seq.{ext_get_or, set_out}
use Rattle.std.proofs.lemmas.List.{set_split, set-get_or}
use Rattle.words.specs.Signed.{unsigned}
use Rattle.words.specs.Words.{word_at, put_number, put_word}
use Rattle.words.specs.WordLaws.{length-word}
use Rattle.words.specs.Runs.{words_at, put_words}
use Rattle.words.specs.RunLaws.{length_words, words_at_lem, length_run, run_out}

-- ════ reading
pub part_at : (s : List ℕ) (at n k m : ℕ) → k + m ≤ n → take m (drop k (words_at s at n)) ≡ words_at s (at + 8 * k) m
part_at s at n k m h =
    let left = length-drop k (words_at s at n) in
    let all = length_words s at n in
    let room : m ≤ length (drop k (words_at s at n)) = omega arith in
    let long : length (take m (drop k (words_at s at n))) ≡ m = length-take-le m (drop k (words_at s at n)) room in
    ext_get_or (pos 0) _ _ (long ∙ sym (length_words s (at + 8 * k) m))
    (λ i l. get_or-take m (drop k (words_at s at n)) i (pos 0) (omega arith)
    ∙ get_or-drop k (words_at s at n) i (pos 0)
    ∙ words_at_lem s at n (k + i) (omega arith)
    ∙ ap (word_at s) (omega arith)
    ∙ sym (words_at_lem s (at + 8 * k) m i (omega arith)))

-- ════ writing, one part behind the other
pub run_append : (s : List ℕ) (at : ℕ) (a b : List ℤ) → put_words s at (a ++ b) ≡ put_words (put_words s at a) (at + 8 * length a) b
unfolding put_words
run_append s at [] b = ap (λ (k : ℕ). put_words s k b) (omega arith)
run_append s at (x ∷ a) b =
    run_append (put_word s at x) (at + 8) a b ∙ ap (λ (k : ℕ). put_words (put_words (put_word s at x) (at + 8) a) k b) (omega arith)

-- ════ what stood under a run does not matter
-- two lists of one length that agree at byte j agree there after the same is written to both
module _ (j : ℕ) where
  set-agree : (s t : List ℕ) (at v : ℕ) → length s ≡ length t → get_or s j 0 ≡ get_or t j 0 → get_or (set s at v) j 0 ≡ get_or (set t at v) j 0
  set-agree s t at v e q = by (ℕ_discrete j at) (dec_lt at (length s))
    where
      by : Dec (j ≡ at) → Dec (at < length s) → get_or (set s at v) j 0 ≡ get_or (set t at v) j 0
      by (no n) d = get_or-set_other s at j v 0 n ∙ q ∙ sym (get_or-set_other t at j v 0 n)
      by (yes p) (yes l) =
          let m : at < length t = omega arith in
          ap (λ (k : ℕ). get_or (set s at v) k 0) p ∙ get_or-set_same s at v 0 l ∙ sym (ap (λ (k : ℕ). get_or (set t at v) k 0) p ∙ get_or-set_same t at v 0 m)
      by (yes p) (no l) =
          let m : length t ≤ at = omega arith in
          ap (λ (x : List ℕ). get_or x j 0) (set_out s at v (omega arith)) ∙ q ∙ sym (ap (λ (x : List ℕ). get_or x j 0) (set_out t at v m))

  number-agree : (s t : List ℕ) (at k n : ℕ) → length s ≡ length t → get_or s j 0 ≡ get_or t j 0 → get_or (put_number s at k n) j 0 ≡ get_or (put_number t at k n) j 0
  unfolding put_number
  number-agree s t at zero n e q = q
  number-agree s t at (suc k) n e q =
      number-agree (set s at (n % 256)) (set t at (n % 256)) (at + 1) k (n / 256) (length-set s at _ ∙ e ∙ sym (length-set t at _)) (set-agree s t at (n % 256) e q)

  run_agree : (s t : List ℕ) (at : ℕ) (ws : List ℤ) → length s ≡ length t → get_or s j 0 ≡ get_or t j 0 → get_or (put_words s at ws) j 0 ≡ get_or (put_words t at ws) j 0
  unfolding put_words put_word
  run_agree s t at [] e q = q
  run_agree s t at (w ∷ ws) e q =
      run_agree (put_word s at w) (put_word t at w) (at + 8) ws (length-word s at w ∙ e ∙ sym (length-word t at w)) (number-agree s t at 8 (unsigned w) e q)

  -- and they agree where it was written
  number_in : (s t : List ℕ) (at k n : ℕ) → length s ≡ length t → at + k ≤ length s → at ≤ j → j < at + k → get_or (put_number s at k n) j 0 ≡ get_or (put_number t at k n) j 0
  unfolding put_number
  number_in s t at zero n e h a b = absurd (omega arith)
  number_in s t at (suc k) n e h a b =
      by (λ r p q. number_in (set s at (n % 256)) (set t at (n % 256)) (at + 1) k (n / 256) (length-set s at _ ∙ e ∙ sym (length-set t at _)) r p q) (ℕ_discrete j at)
    where
      long : length (set s at (n % 256)) ≡ length (set t at (n % 256))
      long = length-set s at _ ∙ e ∙ sym (length-set t at _)

      by : (at + 1 + k ≤ length (set s at (n % 256)) → at + 1 ≤ j → j < at + 1 + k → (get_or (put_number (set s at (n % 256)) (at + 1) k (n / 256)) j 0 ≡ get_or (put_number (set t at (n % 256)) (at + 1) k (n / 256)) j 0)) → Dec (j ≡ at) → get_or (put_number (set s at (n % 256)) (at + 1) k (n / 256)) j 0 ≡ get_or (put_number (set t at (n % 256)) (at + 1) k (n / 256)) j 0
      by later (yes p) =
          let l : at < length s = omega arith in
          let m : at < length t = omega arith in
          number-agree (set s at (n % 256)) (set t at (n % 256)) (at + 1) k (n / 256) long
          (ap (λ (i : ℕ). get_or (set s at (n % 256)) i 0) p ∙ get_or-set_same s at _ 0 l ∙ sym (ap (λ (i : ℕ). get_or (set t at (n % 256)) i 0) p ∙ get_or-set_same t at _ 0 m))
      by later (no q) = later (let c = length-set s at (n % 256) in omega arith) (omega arith) (omega arith)

  run_in : (s t : List ℕ) (at : ℕ) (ws : List ℤ) → length s ≡ length t → at + 8 * length ws ≤ length s → at ≤ j → j < at + 8 * length ws
      → get_or (put_words s at ws) j 0 ≡ get_or (put_words t at ws) j 0
  unfolding put_words put_word
  run_in s t at [] e h a b = absurd (omega arith)
  run_in s t at (w ∷ ws) e h a b =
      by (λ r p q. run_in (put_word s at w) (put_word t at w) (at + 8) ws (length-word s at w ∙ e ∙ sym (length-word t at w)) r p q) (dec_lt j (at + 8))
    where
      long : length (put_word s at w) ≡ length (put_word t at w)
      long = length-word s at w ∙ e ∙ sym (length-word t at w)

      by : (at + 8 + 8 * length ws ≤ length (put_word s at w) → at + 8 ≤ j → j < at + 8 + 8 * length ws → (get_or (put_words (put_word s at w) (at + 8) ws) j 0 ≡ get_or (put_words (put_word t at w) (at + 8) ws) j 0)) → Dec (j < at + 8) → get_or (put_words (put_word s at w) (at + 8) ws) j 0 ≡ get_or (put_words (put_word t at w) (at + 8) ws) j 0
      by later (yes l) = run_agree (put_word s at w) (put_word t at w) (at + 8) ws long (number_in s t at 8 (unsigned w) e (omega arith) a l)
      by later (no l) = later (let c = length-word s at w in omega arith) (omega arith) (omega arith)

-- ════ one part of a run written anew: m goes, v comes
module _ (s : List ℕ) (a m v c : List ℤ) (at : ℕ) (even : length m ≡ length v) (is : at ≡ 8 * length a) (room : 8 * (length a + length m + length c) ≤ length s) where
  front : List ℕ
  front = put_words s 0 a

  -- the run, whatever its middle x
  in_parts : (x : List ℤ) → put_words s 0 (a ++ (x ++ c)) ≡ put_words (put_words front at x) (at + 8 * length x) c
  unfolding front
  in_parts x =
      run_append s 0 a (x ++ c)
      ∙ ap (λ (k : ℕ). put_words (put_words s 0 a) k (x ++ c)) (omega arith)
      ∙ run_append (put_words s 0 a) at x c

  long : (x : List ℤ) → length (put_words front at x) ≡ length s
  unfolding front
  long x = length_run (put_words s 0 a) at x ∙ length_run s 0 a

  pub patch : put_words (put_words s 0 (a ++ (m ++ c))) at v ≡ put_words s 0 (a ++ (v ++ c))
  unfolding front
  patch = ext_get_or 0 _ _ (length_run _ at v ∙ length_run s 0 _ ∙ sym (length_run s 0 _)) (λ j l. by j (dec_lt j at) (dec_lt j (at + 8 * length v)))
    where
      whole : List ℕ
      whole = put_words (put_words front at m) (at + 8 * length m) c

      new : List ℕ
      new = put_words (put_words front at v) (at + 8 * length v) c

      by : (j : ℕ) → Dec (j < at) → Dec (j < at + 8 * length v)
          → get_or (put_words (put_words s 0 (a ++ (m ++ c))) at v) j 0 ≡ get_or (put_words s 0 (a ++ (v ++ c))) j 0
      by j d e = ap (λ (x : List ℕ). get_or (put_words x at v) j 0) (in_parts m) ∙ go d e ∙ sym (ap (λ (x : List ℕ). get_or x j 0) (in_parts v))
        where
          outside : (j < at) ⊎ (at + 8 * length v ≤ j) → get_or (put_words (put_words (put_words front at m) (at + 8 * length m) c) at v) j 0 ≡ get_or (put_words (put_words front at v) (at + 8 * length v) c) j 0
          outside o =
              run_out _ at v j o
              ∙ ap (λ (n : ℕ). get_or (put_words (put_words front at m) (at + 8 * n) c) j 0) even
              ∙ run_agree j (put_words front at m) (put_words front at v) (at + 8 * length v) c (long m ∙ sym (long v))
              (run_out front at m j (moved o) ∙ sym (run_out front at v j o))
            where
              moved : (j < at) ⊎ (at + 8 * length v ≤ j) → (j < at) ⊎ (at + 8 * length m ≤ j)
              moved (inl p) = inl p
              moved (inr p) = inr (omega arith)

          go : Dec (j < at) → Dec (j < at + 8 * length v)
              → get_or (put_words (put_words (put_words front at m) (at + 8 * length m) c) at v) j 0 ≡ get_or (put_words (put_words front at v) (at + 8 * length v) c) j 0
          go (yes p) e = outside (inl p)
          go (no p) (no q) = outside (inr (omega arith))
          go (no p) (yes q) =
              let lm = length_run (put_words front at m) (at + 8 * length m) c in
              let ll = long m in
              let lf = length_run s 0 a in
              run_in j (put_words (put_words front at m) (at + 8 * length m) c) front at v (omega arith) (omega arith) (omega arith) q
              ∙ sym (run_out (put_words front at v) (at + 8 * length v) c j (inl q))

-- one word of a run
pub patch-word : (s : List ℕ) (w : List ℤ) (k : ℕ) (x : ℤ) → k < length w → 8 * length w ≤ length s → put_word (put_words s 0 w) (8 * k) x ≡ put_words s 0 (set w k x)
unfolding put_words
patch-word s w k x h room =
    let front = length-take-le k w (let e : k ≤ length w = omega arith in e) in
    let rest = length-drop (suc k) w in
    let one : length (x ∷ []) ≡ 1 = refl in
    ap (λ (l : List ℤ). put_word (put_words s 0 l) (8 * k) x) (sym (set-get_or w k (pos 0)) ∙ set_split w k (get_or w k (pos 0)) h)
    ∙ patch s (take k w) (get_or w k (pos 0) ∷ []) (x ∷ []) (drop (suc k) w) (8 * k) refl (omega arith) (omega arith)
    ∙ ap (put_words s 0) (sym (set_split w k x h))

-- a run written over another
pub patch-whole : (s : List ℕ) (w v : List ℤ) → length w ≡ length v → 8 * length w ≤ length s → put_words (put_words s 0 w) 0 v ≡ put_words s 0 v
patch-whole s w v even room =
    let none : length {A = ℤ} [] ≡ 0 = refl in
    ap (λ (l : List ℤ). put_words (put_words s 0 l) 0 v) (sym (append-nil w)) ∙ patch s [] w v [] 0 even refl (omega arith) ∙ ap (put_words s 0) (append-nil v)
