-- Loops that test every number below n, and stop at the first that fails. Assumes nothing.
use Prim.Native.Nat.{ℕ, zero, suc, ◌<◌}
use Rattle.std.specs.Prelude.{◌≡◌, Bool, ◌&&◌, ◌⊎◌}
use Rattle.std.proofs.Math.Path.{refl, sym}
use Rattle.std.proofs.Common.{◌∙◌, inl, inr}
use Rattle.std.proofs.Math.Bool.{true, false, cond}
use native.Mathlib.Omega.{arith}
use Rattle.std.proofs.Math.Decide.{dec_lt}
use Rattle.words.specs.Bools.{clash, true_or_false, and_left, and_right, and_both}
use Rattle.lists.specs.All.{all_below, all_suc, all_fails}

-- the least number below n that fails, n where none does
unfoldable pub first_failing : ℕ → (ℕ → Bool) → ℕ
first_failing zero p = 0
first_failing (suc n) p = cond (all_below n p) (cond (p n) (suc n) n) (first_failing n p)

module _ (p : ℕ → Bool) where
  -- what stopped the loop is the least
  pub first-is : (k n : ℕ) → k < n → all_below k p ≡ true → p k ≡ false → first_failing n p ≡ k
  unfolding first_failing
  first-is k zero h a f = absurd (omega arith)
  first-is k (suc n) h a f = go (λ l. first-is k n l a f) (dec_lt k n)
    where
      go : (k < n → first_failing n p ≡ k) → Dec (k < n) → cond (all_below n p) (cond (p n) (suc n) n) (first_failing n p) ≡ k
      go ih (yes l) = rw (all_fails n p k l f) (ih l)
      go ih (no l) = let q : n ≡ k = omega arith in rw (q, a, f)

  -- where none fails
  pub first_failing-none : (n : ℕ) → all_below n p ≡ true → first_failing n p ≡ n
  unfolding first_failing
  first_failing-none zero e = refl
  first_failing-none (suc n) e =
      let a : all_below n p && p n ≡ true = sym (all_suc n p) ∙ e in rw (and_left (all_below n p) (p n) a, and_right (all_below n p) (p n) a)

  -- where some number fails, the least fails and all below it pass
  pub first_fails : (n : ℕ) → all_below n p ≡ false → (first_failing n p < n) × ((p (first_failing n p) ≡ false) × (all_below (first_failing n p) p ≡ true))
  unfolding first_failing all_below
  first_fails zero e = clash refl e
  first_fails (suc n) e = go (first_fails n) (true_or_false (all_below n p)) (true_or_false (p n))
    where
      go : (all_below n p ≡ false → (first_failing n p < n) × ((p (first_failing n p) ≡ false) × (all_below (first_failing n p) p ≡ true)))
          → (all_below n p ≡ true) ⊎ (all_below n p ≡ false) → (p n ≡ true) ⊎ (p n ≡ false)
          → (first_failing (suc n) p < suc n) × ((p (first_failing (suc n) p) ≡ false) × (all_below (first_failing (suc n) p) p ≡ true))
      go ih (inl a) (inl b) = clash (rw (all_suc n p) (and_both _ _ a b)) e
      go ih (inl a) (inr b) = rw (a, b) (omega arith, (b, a))
      go ih (inr a) b = let r = ih a in let l = r.0 in rw a (omega arith, r.1)
