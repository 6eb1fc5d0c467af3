-- Laws of the scan: a step that keeps, a step that skips, and its end; what it keeps lies end to end or apart; the run between two kept entries. Assumes nothing.
use Rattle.salvage.specs.Statements.{Apart}
use Rattle.std.specs.Prelude.{ℕ, zero, suc, ◌+◌, ◌-◌, ◌*◌, ◌<◌, ◌≤◌, ◌≡◌, refl, ◌⊎◌, true, false, cond, List, [], ◌∷◌, leb, length, get_or}
use Rattle.std.proofs.Common.{sym, ◌∙◌, inl, inr, arith, leb-true, lt-ltb, le-ltb}
use Rattle.std.proofs.Math.Path.{ap}
use Rattle.std.proofs.Math.Decide.{dec_lt}
use Rattle.std.proofs.lemmas.Bool.{lt-leb}
use Rattle.words.specs.Bools.{true_or_false, and_left, and_right, and_no_left}
use Rattle.files.specs.Files.{right_at}
use Rattle.salvage.specs.Salvage.{kept_at, scan, kept_from, run_between}

pub kept-inside : (f : List ℕ) (at : ℕ) → kept_at f at ≡ true → at + 128 ≤ length f
unfolding kept_at
kept-inside f at e = leb-true _ _ (and_left (leb (at + 128) (length f)) _ e)

pub kept_right : (f : List ℕ) (at : ℕ) → kept_at f at ≡ true → right_at f at ≡ true
unfolding kept_at
kept_right f at e = and_right (leb (at + 128) (length f)) (right_at f at) e

beyond : (f : List ℕ) (at : ℕ) → length f < at + 128 → kept_at f at ≡ false
unfolding kept_at
beyond f at h = and_no_left (leb (at + 128) (length f)) _ (lt-leb _ _ h)

-- ════ steps enough are all the same
scan-beyond : (f : List ℕ) (k at : ℕ) → length f < at + 128 → scan f k at ≡ []
unfolding scan
scan-beyond f zero at h = refl
scan-beyond f (suc k) at h = rw (beyond f at h) (scan-beyond f k (at + 8) (omega arith))

scan-enough : (f : List ℕ) (k j at : ℕ) → length f ≤ at + k → length f ≤ at + j → scan f k at ≡ scan f j at
unfolding scan
scan-enough f zero j at h g = sym (scan-beyond f j at (omega arith))
scan-enough f (suc k) zero at h g = scan-beyond f (suc k) at (omega arith)
scan-enough f (suc k) (suc j) at h g =
    cc (scan-enough f k j (at + 128) (omega arith) (omega arith), scan-enough f k j (at + 8) (omega arith) (omega arith))

pub scan_end : (f : List ℕ) (at : ℕ) → length f < at + 128 → kept_from f at ≡ []
unfolding kept_from
scan_end f at h = scan-beyond f (length f) at h

module _ (f : List ℕ) (at : ℕ) where
  step : (m : ℕ) → length f ≡ suc m → kept_from f at ≡ cond (kept_at f at) (at ∷ kept_from f (at + 128)) (kept_from f (at + 8))
  unfolding kept_from scan
  step m e =
      ap (λ (k : ℕ). scan f k at) e
      ∙ cc (scan-enough f m (length f) (at + 128) (omega arith) (omega arith), scan-enough f m (length f) (at + 8) (omega arith) (omega arith))

  pub scan-keep : kept_at f at ≡ true → kept_from f at ≡ at ∷ kept_from f (at + 128)
  scan-keep e =
      let h = kept-inside f at e in
      let n : length f ≡ suc (length f - 1) = omega arith in
      step (length f - 1) n ∙ rw e

  pub scan-skip : kept_at f at ≡ false → kept_from f at ≡ kept_from f (at + 8)
  scan-skip e = go (dec_lt (length f) (at + 128))
    where
      go : Dec (length f < at + 128) → kept_from f at ≡ kept_from f (at + 8)
      go (yes h) = scan_end f at h ∙ sym (scan_end f (at + 8) (omega arith))
      go (no h) = let n : length f ≡ suc (length f - 1) = omega arith in step (length f - 1) n ∙ rw e

-- ════ what is kept
scan-apart : (f : List ℕ) (k from at : ℕ) → from ≤ at → from ≤ length f → Apart from (scan f k at) (length f)
unfolding scan
scan-apart f zero from at h l = l
scan-apart f (suc k) from at h l = go (λ g. scan-apart f k (at + 128) (at + 128) (omega arith) g) (scan-apart f k from (at + 8) (omega arith) l) (true_or_false (kept_at f at))
  where
    go : (at + 128 ≤ length f → Apart (at + 128) (scan f k (at + 128)) (length f)) → Apart from (scan f k (at + 8)) (length f)
        → (kept_at f at ≡ true) ⊎ (kept_at f at ≡ false) → Apart from (cond (kept_at f at) (at ∷ scan f k (at + 128)) (scan f k (at + 8))) (length f)
    go jump on (inl t) = rw t (h, jump (kept-inside f at t))
    go jump on (inr t) = rw t on

pub kept-apart : (f : List ℕ) (at : ℕ) → at ≤ length f → Apart at (kept_from f at) (length f)
unfolding kept_from
kept-apart f at h = scan-apart f (length f) at at (omega arith) h

pub apart-room : (from : ℕ) (ks : List ℕ) (end : ℕ) → Apart from ks end → from + 128 * length ks ≤ end
apart-room from [] end a = omega arith
apart-room from (k ∷ ks) end a = omega (arith, apart-room (k + 128) ks end a.1, a.0)

scan_right : (f : List ℕ) (k at i : ℕ) → i < length (scan f k at) → right_at f (get_or (scan f k at) i 0) ≡ true
unfolding scan
scan_right f zero at i h = absurd (omega arith)
scan_right f (suc k) at i h = go i h (scan_right f k (at + 128)) (scan_right f k (at + 8)) (true_or_false (kept_at f at))
  where
    go : (i : ℕ) → i < length (cond (kept_at f at) (at ∷ scan f k (at + 128)) (scan f k (at + 8)))
        → ((j : ℕ) → j < length (scan f k (at + 128)) → right_at f (get_or (scan f k (at + 128)) j 0) ≡ true)
        → ((j : ℕ) → j < length (scan f k (at + 8)) → right_at f (get_or (scan f k (at + 8)) j 0) ≡ true)
        → (kept_at f at ≡ true) ⊎ (kept_at f at ≡ false)
        → right_at f (get_or (cond (kept_at f at) (at ∷ scan f k (at + 128)) (scan f k (at + 8))) i 0) ≡ true
    go i h jump on (inr t) = let l : i < length (scan f k (at + 8)) = rw t at h in rw t (on i l)
    go zero h jump on (inl t) = rw t (kept_right f at t)
    go (suc i) h jump on (inl t) = let l : suc i < suc (length (scan f k (at + 128))) = rw t at h in rw t (jump i (omega arith))

pub kept-each_right : (f : List ℕ) (at i : ℕ) → i < length (kept_from f at) → right_at f (get_or (kept_from f at) i 0) ≡ true
unfolding kept_from
kept-each_right f at = scan_right f (length f) at

-- ════ the run between two bytes, and none
module _ (a b : ℕ) where
  pub run_one : a < b → run_between a b ≡ (a, b - a) ∷ []
  unfolding run_between
  run_one h = rw (lt-ltb a b h)

  pub run_none : b ≤ a → run_between a b ≡ []
  unfolding run_between
  run_none h = rw (le-ltb a b h)
