-- What stands before the first of a byte: a field ends before a blank, a line before an LF. Assumes nothing.
use Rattle.std.specs.Prelude.{◌≡◌, Bool, eqb, drop, get_or}
use Rattle.std.proofs.Math.Path.{refl, ap}
use Rattle.std.proofs.Math.Bool.{true, false, cond}
use mathlib.Core.List.{List, [], ◌∷◌}
use Prim.Native.Nat.{ℕ, zero, suc, ◌+◌, ◌≤◌, ◌<◌}
use native.Mathlib.Omega.{arith}
use Rattle.std.proofs.Common.{add-one, drop_of_length-le, drop-cons}
use Rattle.std.proofs.Math.ListN.{length, take}
use borrow.Author.Tests.{eq-eqb, ne_eqb}

-- all of it where there is no b
unfoldable pub before : ℕ → List ℕ → List ℕ
before b [] = []
before b (c ∷ cs) = cond (eqb c b) [] (c ∷ before b cs)

module _ (b : ℕ) where
  pub before-length : (l : List ℕ) → length (before b l) ≤ length l
  unfolding before
  before-length [] = omega arith
  before-length (c ∷ cs) = by (eqb c b) (before-length cs)
    where
      by : (t : Bool) → length (before b cs) ≤ length cs → length (cond t [] (c ∷ before b cs)) ≤ suc (length cs)
      by true h = omega arith
      by false h = omega arith

  pub before-take : (l : List ℕ) → take (length (before b l)) l ≡ before b l
  unfolding before
  before-take [] = refl
  before-take (c ∷ cs) = by (eqb c b) (before-take cs)
    where
      by :
          (t : Bool) →
          take (length (before b cs)) cs ≡ before b cs →
          take (length (cond t [] (c ∷ before b cs))) (c ∷ cs) ≡ cond t [] (c ∷ before b cs)
      by true e = refl
      by false e = ap (λ (l : List ℕ). c ∷ l) e

  -- of a text that was cut it is the cut
  pub before-cut : (n : ℕ) (l : List ℕ) → before b (take n l) ≡ take n (before b l)
  unfolding before
  before-cut zero l = refl
  before-cut (suc n) [] = refl
  before-cut (suc n) (c ∷ cs) = by (eqb c b) (before-cut n cs)
    where
      by :
          (t : Bool) →
          before b (take n cs) ≡ take n (before b cs) →
          cond t [] (c ∷ before b (take n cs)) ≡ take (suc n) (cond t [] (c ∷ before b cs))
      by true e = refl
      by false e = ap (λ (l : List ℕ). c ∷ l) e

  -- ════ the walk to its end
  module _ (s : List ℕ) (i : ℕ) where
    pub end_here : length s ≤ i → i ≡ i + length (before b (drop i s))
    unfolding before
    end_here h = rw (drop_of_length-le s h) (omega arith)

    module _ (h : i < length s) where
      pub end_found : get_or s i 0 ≡ b → i ≡ i + length (before b (drop i s))
      unfolding before
      end_found e = rw (drop-cons s i 0 h, eq-eqb (get_or s i 0) b e) (omega arith)

      pub end_more : (get_or s i 0 ≡ b → ⊥) → i + 1 + length (before b (drop (i + 1) s)) ≡ i + length (before b (drop i s))
      unfolding before
      end_more e = rw (drop-cons s i 0 h, ne_eqb (get_or s i 0) b e, add-one) (omega arith)
