-- A test of every number below n, and a row of tests, as a Bool. Assumes nothing.
use Rattle.std.specs.Prelude.{◌≡◌, refl, Bool, true, false, ◌&&◌, List, [], ◌∷◌, ℕ, zero, suc, ◌+◌, ◌<◌, ◌≤◌, T}
use Rattle.std.proofs.Common.{sym, ap, ◌∙◌, subst, arith, add-one}
use Rattle.std.proofs.Math.Decide.{ℕ_discrete}
use Rattle.words.specs.Bools.{clash, and_left, and_right, and_both}

-- p holds of every number below n
unfoldable pub all_below : ℕ → (ℕ → Bool) → Bool
all_below zero p = true
all_below (suc n) p = all_below n p && p n

pub all_suc : (n : ℕ) (p : ℕ → Bool) → all_below (suc n) p ≡ all_below n p && p n
unfolding all_below
all_suc n p = refl

-- what passed holds at each
pub all_at : (n : ℕ) (p : ℕ → Bool) (i : ℕ) → all_below n p ≡ true → i < n → p i ≡ true
unfolding all_below
all_at zero p i e h = absurd (omega arith)
all_at (suc n) p i e h = go (all_at n p i (and_left _ _ e)) (ℕ_discrete i n)
  where
    go : (i < n → p i ≡ true) → Dec (i ≡ n) → p i ≡ true
    go below (yes q) = rw q (and_right (all_below n p) (p n) e)
    go below (no q) = below (omega arith)

-- what holds at each passes
pub all_by : (n : ℕ) (p : ℕ → Bool) → ((i : ℕ) → i < n → p i ≡ true) → all_below n p ≡ true
unfolding all_below
all_by zero p h = refl
all_by (suc n) p h = and_both _ _ (all_by n p (λ i l. h i (omega arith))) (h n (omega arith))

-- one that does not pass is enough
pub all_fails : (n : ℕ) (p : ℕ → Bool) (i : ℕ) → i < n → p i ≡ false → all_below n p ≡ false
all_fails n p i h e = go (all_below n p) refl
  where
    go : (b : Bool) → all_below n p ≡ b → b ≡ false
    go true q = clash (all_at n p i q h) e
    go false q = refl

-- ════ a loop that tests each in turn, and stops at the first that does not pass
-- before its first turn, after a turn, and past the last
pub all_none : (p : ℕ → Bool) → all_below 0 p ≡ true
unfolding all_below
all_none p = refl

pub all_more : (n : ℕ) (p : ℕ → Bool) → all_below n p ≡ true → p n ≡ true → all_below (n + 1) p ≡ true
all_more n p e f = rw (add-one, all_suc) (and_both (all_below n p) (p n) e f)

pub all_done : (n : ℕ) (p : ℕ → Bool) (k : ℕ) → k ≤ n → n ≤ k → all_below k p ≡ true → true ≡ all_below n p
all_done n p k h g e = let q : k ≡ n = omega arith in sym e ∙ ap (λ (m : ℕ). all_below m p) q

-- ════ a row of tests, `b₁ && b₂ && …`, given as the list of them
abbrev pub conjunction : Bool → List Bool → Bool
conjunction a [] = a
conjunction a (b ∷ bs) = conjunction (a && b) bs

abbrev pub Each : List Bool → Type 0
Each [] = Unit {0}
Each (b ∷ bs) = (b ≡ true) × Each bs

-- each of a row that passed has passed
pub each : (bs : List Bool) → conjunction true bs ≡ true → Each bs
each bs e = (go true bs e).1
  where
    go : (a : Bool) (bs : List Bool) → conjunction a bs ≡ true → (a ≡ true) × Each bs
    go a [] e = (e, tt)
    go a (b ∷ bs) e = let x = go (a && b) bs e in (and_left a b x.0, (and_right a b x.0, x.1))

-- a row of which each has passed has passed
pub each_by : (bs : List Bool) → Each bs → conjunction true bs ≡ true
each_by bs h = go true bs refl h
  where
    go : (a : Bool) (bs : List Bool) → a ≡ true → Each bs → conjunction a bs ≡ true
    go a [] e h = e
    go a (b ∷ bs) e h = go (a && b) bs (and_both a b e h.0) h.1

-- a test that passed, as the orders of ℤ hold it
pub passed : (t : Bool) → t ≡ true → T t
passed t e = subst T (sym e) tt
