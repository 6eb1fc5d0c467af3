-- Which numbers below 32 are joined to a start by chains of edges, and the search that finds them: passes over the edges until one changes nothing.
-- Edge e has the ends f e and t e. Assumes nothing.
use Rattle.std.specs.Prelude.{◌≡◌, Bool, false, cond, ◌⊎◌, eqb}
use Rattle.std.proofs.Math.Path.{refl}
use Rattle.std.proofs.Math.Bool.{true}
use Rattle.std.proofs.Common.{inl, inr, le_antisymm, arith, eqb-true}
use Rattle.std.proofs.Math.Logic.{⊎_elim}
use Prim.Native.Nat.{ℕ, zero, suc, ◌+◌, ◌-◌, ◌≤◌, ◌<◌, ◌^◌}
use Rattle.std.proofs.Math.Nat.{le_refl, le_trans, add-zero, add-suc}
use Rattle.std.proofs.Math.Numerals.{add-one}
use Rattle.std.proofs.lemmas.Bool.{eqb-false}
use Rattle.words.specs.Bools.{true_or_false}
use Rattle.chains.specs.Bits.{bit, set_bit, worked_out, worked_out_lem, set_grows, set-fits, set_keeps, set-stays, set_cases}

-- one edge: if an end is in the set, the other is put in
unfoldable pub join : ℕ → ℕ → ℕ → ℕ
join w a b = worked_out w (λ v. cond (bit v a) (set_bit v b) (cond (bit v b) (set_bit v a) v))

-- one pass over the first n edges
unfoldable pub pass : (ℕ → ℕ) → (ℕ → ℕ) → ℕ → ℕ → ℕ
pass f t zero w = w
pass f t (suc n) w = join (pass f t n w) (f n) (t n)

-- passes until one changes nothing, at most `left` of them
unfoldable pub search : (ℕ → ℕ) → (ℕ → ℕ) → ℕ → ℕ → ℕ → ℕ
search f t n zero w = w
search f t n (suc left) w = worked_out (pass f t n w) (λ v. cond (eqb v w) w (search f t n left v))

-- s is joined by a chain of the first n edges to a start, a number of the set h
pub data Joined (f t : ℕ → ℕ) (n h : ℕ) : ℕ → Type 0 where
  start : {s : ℕ} → bit h s ≡ true → Joined f t n h s
  along : {a b e : ℕ} → e < n → f e ≡ a → t e ≡ b → Joined f t n h a → Joined f t n h b
  back : {a b e : ℕ} → e < n → f e ≡ a → t e ≡ b → Joined f t n h b → Joined f t n h a

-- the set w has just the numbers that are joined to a start
pub record Found (f t : ℕ → ℕ) (n h w : ℕ) : Type 0 where
  pub sound : (s : ℕ) → bit w s ≡ true → Joined f t n h s
  pub whole : (s : ℕ) → Joined f t n h s → bit w s ≡ true

-- ---- laws of a pass
by_bool : (b : Bool) (P : Type 0) → (b ≡ true → P) → (b ≡ false → P) → P
by_bool true P y n = y refl
by_bool false P y n = n refl

module _ (w a b : ℕ) where
  pub join_is : join w a b ≡ cond (bit w a) (set_bit w b) (cond (bit w b) (set_bit w a) w)
  unfolding join
  join_is = worked_out_lem w _

  -- what an edge does, by cases
  join_ind : (P : ℕ → Type 0) → (bit w a ≡ true → P (set_bit w b)) → (bit w b ≡ true → P (set_bit w a)) → P w → P (join w a b)
  join_ind P x y z =
      rw join_is (by_bool (bit w a) _ (λ e. rw e (x e)) (λ e. by_bool (bit w b) _ (λ q. rw (e, q) (y q)) (λ q. rw (e, q) z)))

  join_grows : w ≤ join w a b
  join_grows = join_ind (λ v. w ≤ v) (λ e. set_grows w b) (λ e. set_grows w a) (le_refl w)

  pub join-fits : a < 32 → b < 32 → w < 2 ^ 32 → join w a b < 2 ^ 32
  join-fits k l m = join_ind (λ v. v < 2 ^ 32) (λ e. set-fits w b l m) (λ e. set-fits w a k m) m

  join-keeps : (s : ℕ) → bit w s ≡ true → bit (join w a b) s ≡ true
  join-keeps s h = join_ind (λ v. bit v s ≡ true) (λ e. set_keeps w b s h) (λ e. set_keeps w a s h) h

  -- an edge that changes nothing has both ends set or neither
  join_along : join w a b ≡ w → bit w a ≡ true → bit w b ≡ true
  join_along e h = set-stays w b (rw (join_is, h) at e)

  join-back : join w a b ≡ w → bit w b ≡ true → bit w a ≡ true
  join-back e h = by_bool (bit w a) _ (λ q. q) (λ q. set-stays w a (rw (join_is, q, h) at e))

module _ (f t : ℕ → ℕ) where
  pass_grows : (n w : ℕ) → w ≤ pass f t n w
  unfolding pass
  pass_grows zero w = le_refl w
  pass_grows (suc n) w = le_trans (pass_grows n w) (join_grows (pass f t n w) (f n) (t n))

  pass-more : (k d w : ℕ) → pass f t k w ≤ pass f t (k + d) w
  unfolding pass
  pass-more k zero w = rw add-zero (le_refl (pass f t k w))
  pass-more k (suc d) w = rw add-suc (le_trans (pass-more k d w) (join_grows (pass f t (k + d) w) (f (k + d)) (t (k + d))))

  -- a pass that changes nothing changes nothing on the way
  pass_still : (n w : ℕ) → pass f t n w ≡ w → (k : ℕ) → k ≤ n → pass f t k w ≡ w
  pass_still n w e k h =
      let q : k + (n - k) ≡ n = omega arith in
      le_antisymm (rw (q, e) at (pass-more k (n - k) w)) (pass_grows k w)

  pass-edge : (n w : ℕ) → pass f t n w ≡ w → (k : ℕ) → k < n → join w (f k) (t k) ≡ w
  unfolding pass
  pass-edge n w e k h =
      let a = pass_still n w e k (omega arith) in
      let b = pass_still n w e (suc k) h in
      rw a at b

  pub pass-keeps : (n w s : ℕ) → bit w s ≡ true → bit (pass f t n w) s ≡ true
  unfolding pass
  pass-keeps zero w s h = h
  pass-keeps (suc n) w s h = join-keeps (pass f t n w) (f n) (t n) s (pass-keeps n w s h)

  pub pass_step : (n w : ℕ) → pass f t (n + 1) w ≡ join (pass f t n w) (f n) (t n)
  unfolding pass
  pass_step n w = rw add-one

  pub pass_fits : (n w : ℕ) → ((e : ℕ) → e < n → (f e < 32) × (t e < 32)) → w < 2 ^ 32 → pass f t n w < 2 ^ 32
  unfolding pass
  pass_fits zero w r h = h
  pass_fits (suc n) w r h = join-fits (pass f t n w) (f n) (t n) (r n (le_refl (suc n))).0 (r n (le_refl (suc n))).1 (pass_fits n w (λ e l. r e (omega arith)) h)

  module _ (n h : ℕ) where
    Sound : ℕ → Type 0
    Sound w = (s : ℕ) → bit w s ≡ true → Joined f t n h s

    set-sound : (w a : ℕ) → Joined f t n h a → Sound w → Sound (set_bit w a)
    unfolding Sound
    set-sound w a j r s e = ⊎_elim (λ q. rw q j) (λ q. r s q) (set_cases w a s e)

    join-sound : (w e : ℕ) → e < n → Sound w → Sound (join w (f e) (t e))
    unfolding Sound
    join-sound w e l r =
        join_ind w (f e) (t e) (λ v. (s : ℕ) → bit v s ≡ true → Joined f t n h s)
        (λ q. set-sound w (t e) (along l refl refl (r (f e) q)) r)
        (λ q. set-sound w (f e) (back l refl refl (r (t e) q)) r)
        r

    pub pass-sound : (m w : ℕ) → m ≤ n → ((s : ℕ) → bit w s ≡ true → Joined f t n h s) → (s : ℕ) → bit (pass f t m w) s ≡ true → Joined f t n h s
    unfolding pass Sound
    pass-sound zero w l r = r
    pass-sound (suc m) w l r = join-sound (pass f t m w) m l (pass-sound m w (omega arith) r)

    -- where a pass changes nothing, every chain has been followed
    pub followed : (w : ℕ) → ((s : ℕ) → bit h s ≡ true → bit w s ≡ true) → pass f t n w ≡ w → (s : ℕ) → Joined f t n h s → bit w s ≡ true
    followed w k e s (start q) = k s q
    followed w k e s (along {a = a} {e = i} l p q j) =
        rw q at (join_along w (f i) (t i) (pass-edge n w e i l) (rw (← p) at (followed w k e a j)))
    followed w k e s (back {b = b} {e = i} l p q j) =
        rw p at (join-back w (f i) (t i) (pass-edge n w e i l) (rw (← q) at (followed w k e b j)))

-- what a search has found so far
pub record Partial (f t : ℕ → ℕ) (n h w : ℕ) : Type 0 where
  pub fits : w < 2 ^ 32
  pub keeps : (s : ℕ) → bit h s ≡ true → bit w s ≡ true
  pub sound : (s : ℕ) → bit w s ≡ true → Joined f t n h s

module _ {f t : ℕ → ℕ} {n h w : ℕ} (p : Partial f t n h w) where
  pub more : ((e : ℕ) → (f e < 32) × (t e < 32)) → Partial f t n h (pass f t n w)
  more r =
      record {
        fits = pass_fits f t n w (λ e l. r e) p.fits;
        keeps = λ s q. pass-keeps f t n w s (p.keeps s q);
        sound = pass-sound f t n h n w (le_refl n) p.sound;
      }

  pub found : pass f t n w ≡ w → Found f t n h w
  found e = record { sound = p.sound; whole = followed f t n h w p.keeps e }

pub nothing_yet : (f t : ℕ → ℕ) (n h : ℕ) → h < 2 ^ 32 → Partial f t n h h
nothing_yet f t n h l = record { fits = l; keeps = λ s q. q; sound = λ s q. start q }

-- a pass that changes the word makes it larger
pub pass_larger : (f t : ℕ → ℕ) (n w v : ℕ) → v ≡ pass f t n w → (v ≡ w → ⊥) → w < v
pass_larger f t n w v e d = let g = pass_grows f t n w in omega (arith, d)

-- the search finds them: each pass but the last makes the word larger, and it stays below 2^32
module _ (f t : ℕ → ℕ) (n h : ℕ) (low : (e : ℕ) → (f e < 32) × (t e < 32)) where
  searched : (left w : ℕ) → 2 ^ 32 ≤ left + w → Partial f t n h w → Found f t n h (search f t n left w)
  unfolding search
  searched zero w l p = absurd (let r = p.fits in omega arith)
  searched (suc left) w l p = go (searched left (pass f t n w)) (true_or_false (eqb (pass f t n w) w))
    where
      go : (2 ^ 32 ≤ left + pass f t n w → Partial f t n h (pass f t n w) → Found f t n h (search f t n left (pass f t n w)))
          → (eqb (pass f t n w) w ≡ true) ⊎ (eqb (pass f t n w) w ≡ false) → Found f t n h (search f t n (suc left) w)
      go ih (inl e) = rw (worked_out_lem (pass f t n w), e) (found p (eqb-true _ _ e))
      go ih (inr e) = rw (worked_out_lem (pass f t n w), e) (ih (let g = pass_larger f t n w _ refl (eqb-false _ _ e) in omega arith) (more p low))

  pub search_finds : h < 2 ^ 32 → Found f t n h (search f t n (2 ^ 32) h)
  search_finds l = searched (2 ^ 32) h (omega arith) (nothing_yet f t n h l)
