-- Lists of words one after another in one list, and such of one length. Assumes nothing.
use Prim.Native.Nat.{ℕ, zero, suc, ◌+◌, ◌*◌, ◌<◌, ◌≤◌}
use Rattle.std.specs.Prelude.{◌≡◌, refl, List, [], ◌++◌, length, take, ℤ}
use Rattle.std.proofs.Math.Path.{sym, ap}
use Rattle.std.proofs.Common.{ap₂, ◌∙◌, zero-mul, add-one, take_all}
use Rattle.std.proofs.Math.Nat.{suc-mul, mul-le-mul_right}
use Rattle.std.proofs.Math.Decide.{ℕ_discrete}
use native.Mathlib.Omega.{arith}
use Rattle.std.proofs.Math.ListN.{get_or, length-append, get_or-append}
use Rattle.std.proofs.Math.Seq.{get_or-append-add}
use Rattle.std.proofs.lemmas.List.{take-append-le}

-- f 0, f 1, .., f (n − 1) in one list
unfoldable pub concat_below : ℕ → (ℕ → List ℤ) → List ℤ
concat_below zero f = []
concat_below (suc n) f = concat_below n f ++ f n

pub concat_below-none : (f : ℕ → List ℤ) → concat_below 0 f ≡ []
unfolding concat_below
concat_below-none f = refl

pub concat_below-more : (n : ℕ) (f : ℕ → List ℤ) → concat_below (suc n) f ≡ concat_below n f ++ f n
unfolding concat_below
concat_below-more n f = refl

pub concat_below-+1 : (n : ℕ) (f : ℕ → List ℤ) → concat_below (n + 1) f ≡ concat_below n f ++ f n
concat_below-+1 n f = rw (add-one n) (concat_below-more n f)

-- each part has m words
module _ (m : ℕ) (f : ℕ → List ℤ) (even : (k : ℕ) → length (f k) ≡ m) where
  pub length-concat_below : (n : ℕ) → length (concat_below n f) ≡ n * m
  unfolding concat_below
  length-concat_below zero = sym (zero-mul m)
  length-concat_below (suc n) = length-append (concat_below n f) (f n) ∙ omega (arith, length-concat_below n, even n, suc-mul n m)

  -- word j of part k
  pub concat_below-at : (n k j : ℕ) (d : ℤ) → k < n → j < m → get_or (concat_below n f) (k * m + j) d ≡ get_or (f k) j d
  unfolding concat_below
  concat_below-at zero k j d h l = absurd (omega arith)
  concat_below-at (suc n) k j d h l = go (λ q. concat_below-at n k j d q l) (ℕ_discrete k n)
    where
      go : (k < n → get_or (concat_below n f) (k * m + j) d ≡ get_or (f k) j d) → Dec (k ≡ n) → get_or (concat_below n f ++ f n) (k * m + j) d ≡ get_or (f k) j d
      go before (yes p) =
          ap (λ (i : ℕ). get_or (concat_below n f ++ f n) i d) (ap (λ (k : ℕ). k * m + j) p ∙ ap (λ (i : ℕ). i + j) (sym (length-concat_below n)))
          ∙ get_or-append-add (concat_below n f) (f n) j d
          ∙ ap (λ (i : ℕ). get_or (f i) j d) (sym p)
      go before (no q) =
          let low : suc k ≤ n = omega arith in
          get_or-append (concat_below n f) (f n) d (k * m + j) (omega (arith, length-concat_below n, suc-mul k m, mul-le-mul_right m low)) ∙ before (omega arith)

  -- the first n parts of n + d
  pub concat_below_front : (n d : ℕ) → take (n * m) (concat_below (n + d) f) ≡ concat_below n f
  concat_below_front n zero = ap (λ (k : ℕ). take (n * m) (concat_below k f)) (omega arith) ∙ take_all (n * m) (concat_below n f) (let e = length-concat_below n in omega arith)
  concat_below_front n (suc d) =
      let low : n ≤ n + d = omega arith in
      ap (λ (k : ℕ). take (n * m) (concat_below k f)) (let e : n + suc d ≡ suc (n + d) = omega arith in e)
      ∙ ap (take (n * m)) (concat_below-more (n + d) f)
      ∙ take-append-le (n * m) (concat_below (n + d) f) (f (n + d)) (omega (arith, length-concat_below (n + d), mul-le-mul_right m low))
      ∙ concat_below_front n d

-- parts that are equal below n
pub concat_below-ext : (n : ℕ) (f g : ℕ → List ℤ) → ((k : ℕ) → k < n → f k ≡ g k) → concat_below n f ≡ concat_below n g
unfolding concat_below
concat_below-ext zero f g h = refl
concat_below-ext (suc n) f g h = ap₂ (λ (a b : List ℤ). a ++ b) (concat_below-ext n f g (λ k l. h k (omega arith))) (h n (omega arith))

-- word j of part k, where the parts stand between the lists a and c
pub concat_below-between : (a c : List ℤ) (m n k j at : ℕ) (f : ℕ → List ℤ) (d : ℤ) → ((i : ℕ) → length (f i) ≡ m) → length a ≡ at → k < n → j < m
    → get_or (a ++ (concat_below n f ++ c)) (at + k * m + j) d ≡ get_or (f k) j d
concat_below-between a c m n k j at f d even e h l =
    let low : suc k ≤ n = omega arith in
    let i : at + k * m + j ≡ length a + (k * m + j) = omega arith in
    ap (λ (i : ℕ). get_or (a ++ (concat_below n f ++ c)) i d) i
    ∙ get_or-append-add a (concat_below n f ++ c) (k * m + j) d
    ∙ get_or-append (concat_below n f) c d (k * m + j) (omega (arith, length-concat_below m f even n, suc-mul k m, mul-le-mul_right m low))
    ∙ concat_below-at m f even n k j d h l
