-- What the code of the answer cites: the sizes that a passed test gives to those after it, and tests 6 and 7 over a list that holds r.
use Rattle.std.specs.Prelude.{ℕ, ◌*◌, ◌^◌, ◌<◌, ◌≤◌, ◌≡◌, Bool, true, List, eqb, length, take, ℤ, pos, nat_abs, ◌*ℤ◌, Ok, Err}
use Rattle.std.proofs.Common.{sym, ◌∙◌, arith, leb-true, eqb-true, lit≤}
use Rattle.std.proofs.Math.Path.{ap}
use Rattle.std.proofs.lemmas.List.{length-take-le, get_or-take}
use Rattle.std.proofs.Math.Dec.{leb}
use Rattle.integers.specs.Sums.{sum, sum-ext}
use Rattle.integers.specs.Tables.{Within, within-inside}
use Rattle.words.specs.Bools.{same_test, and_left, and_right}
use Rattle.lists.specs.All.{all_below, all_at, all_by}
use Rattle.network.specs.Units.{most_unknowns}
use Rattle.network.specs.Stations.{unknown_count}
use Rattle.network.specs.declared.Network.{Network}
use Rattle.network.specs.declared.Place.{Place}
use Rattle.normals.specs.Formulas.{matrix_length}
use Rattle.chains.specs.ChainLaws.{EndsInRange}
use Rattle.acceptance.specs.Tests.{at, by_rows, lengths_fit, corrections_small, inverse_small, normal_residual, residual_small, refinement_small}
use Rattle.acceptance.specs.Loops.{Residuals}
use Rattle.acceptance.specs.Judge.{Answer, refusal_number, answer_number}
use Rattle.acceptance.specs.declared.Refusal.{Refusal}
use Rattle.acceptance.specs.declared.Refusal.TheVariants.{Lengths, Untied, Correction, Inverse, Defect, Residual, Refinement, TooLarge}

-- what the answer asks of a book: at most 48 unknowns, ends among the stations, and the sizes of N and u
pub record BookInRange (net : Network) (places : List Place) (normal right : List ℤ) : Type 0 where
  pub few : unknown_count net.stations ≤ most_unknowns
  pub ends : EndsInRange net places
  pub matrix : Within matrix_length 2560000 normal
  pub absolute : Within most_unknowns 768000000000 right

-- the same of the parts, after test 1
pub record NumbersInRange (n : ℕ) (normal right x m : List ℤ) : Type 0 where
  pub few : n ≤ most_unknowns
  pub corrections : length x ≡ n
  pub square : length m ≡ n * n
  pub matrix : Within matrix_length 2560000 normal
  pub absolute : Within most_unknowns 768000000000 right

-- a test of every number below n that another one agrees with
pub all_same : (n : ℕ) (p q : ℕ → Bool) → ((k : ℕ) → k < n → p k ≡ q k) → all_below n p ≡ all_below n q
all_same n p q h =
    same_test (all_below n p) (all_below n q)
    (λ e. all_by n q (λ k l. sym (h k l) ∙ all_at n p k e l))
    (λ e. all_by n p (λ k l. h k l ∙ all_at n q k e l))

-- what test 1 tells
pub lengths_of : (n : ℕ) (x m : List ℤ) (room : Bool) → lengths_fit n x m room ≡ true → (length x ≡ n) × (length m ≡ n * n)
unfolding lengths_fit
lengths_of n x m room e =
    let a = and_left _ _ e in
    (eqb-true _ _ (and_left _ _ a), eqb-true _ _ (and_right (eqb (length x) n) _ a))

-- a list whose sizes were tested throughout
throughout : (l : List ℤ) (b : ℕ) → all_below (length l) (λ k. leb (nat_abs (at l k)) b) ≡ true → (k : ℕ) → nat_abs (at l k) ≤ b
throughout l b e = (within-inside (length l) b l (let q : length l ≡ length l = omega arith in q) (λ k h. leb-true _ _ (all_at (length l) _ k e h))).bound

pub corrections_small_lem : (x : List ℤ) → corrections_small x ≡ true → (k : ℕ) → nat_abs (at x k) ≤ 100000
unfolding corrections_small
corrections_small_lem x e = throughout x 100000 e

pub inverse-small : (m : List ℤ) → inverse_small m ≡ true → (k : ℕ) → nat_abs (at m k) ≤ 2 ^ 34
unfolding inverse_small
inverse-small m e = throughout m (2 ^ 34) e

-- the first n of a list of 48
pub front-is : (n : ℕ) → n ≤ most_unknowns → (r : List ℤ) → length r ≡ most_unknowns → all_below n (λ k. leb (nat_abs (at r k)) (2 ^ 23)) ≡ all_below (length (take n r)) (λ k. leb (nat_abs (at (take n r) k)) (2 ^ 23))
front-is n few r long =
    let e : length (take n r) ≡ n = length-take-le n r (rw long few) in
    rw e (all_same n _ _ (λ k l. ap (λ (z : ℤ). leb (nat_abs z) (2 ^ 23)) (sym (get_or-take n r k (pos 0) l))))

-- tests 6 and 7 over a list whose first n entries are r
module _ (n : ℕ) (normal right x m r : List ℤ) (h : Residuals n (normal_residual n (by_rows most_unknowns normal) (at right) (at x)) r) where
  pub residual-is : all_below n (λ k. leb (nat_abs (at r k)) (2 ^ 23)) ≡ residual_small n (by_rows most_unknowns normal) (at right) (at x)
  unfolding residual_small
  residual-is = all_same n _ _ (λ k l. ap (λ (z : ℤ). leb (nat_abs z) (2 ^ 23)) (h.is k l))

  pub refinement-is : all_below n (λ i. leb (nat_abs (sum n (λ k. by_rows n m i k *ℤ at r k))) (15 * 2 ^ 26)) ≡ refinement_small n (by_rows most_unknowns normal) (by_rows n m) (at right) (at x)
  unfolding refinement_small
  refinement-is = all_same n _ _ (λ i l. ap (λ (z : ℤ). leb (nat_abs z) (15 * 2 ^ 26)) (sum-ext n (λ k q. ap (λ (z : ℤ). by_rows n m i k *ℤ z) (h.is k q))))

  pub residual-sizes : all_below n (λ k. leb (nat_abs (at r k)) (2 ^ 23)) ≡ true → (k : ℕ) → k < n → nat_abs (at r k) ≤ 2 ^ 23
  residual-sizes e k l = leb-true _ _ (all_at n _ k e l)

-- ════ the numbers of the check's refusals are 9 to 16
pub refusal-least : (r : Refusal) → 9 ≤ refusal_number r
refusal-least Lengths = lit≤ tt
refusal-least (Untied k) = lit≤ tt
refusal-least Correction = lit≤ tt
refusal-least Inverse = lit≤ tt
refusal-least Defect = lit≤ tt
refusal-least Residual = lit≤ tt
refusal-least Refinement = lit≤ tt
refusal-least TooLarge = lit≤ tt

pub refusal_most : (r : Refusal) → refusal_number r ≤ 16
refusal_most Lengths = lit≤ tt
refusal_most (Untied k) = lit≤ tt
refusal_most Correction = lit≤ tt
refusal_most Inverse = lit≤ tt
refusal_most Defect = lit≤ tt
refusal_most Residual = lit≤ tt
refusal_most Refinement = lit≤ tt
refusal_most TooLarge = lit≤ tt

pub number_most_lem : (a : Answer) → answer_number a ≤ 16
number_most_lem (Ok u) = lit≤ tt
number_most_lem (Err r) = refusal_most r
