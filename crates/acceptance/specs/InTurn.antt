-- The answer is that of the seven tests made in turn: the first that fails settles it, and it is accepted exactly when all are passed. Assumes nothing.
use Prim.Native.Nat.{ℕ, zero, suc, ◌+◌, ◌<◌}
use Rattle.std.specs.Prelude.{◌≡◌, Bool, true, false, ◌⊎◌, List, ℤ, Ok, Err}
use Rattle.std.proofs.Math.Path.{refl}
use Rattle.std.proofs.Common.{sym, ap, ◌∙◌, subst, inl, inr, arith}
use Rattle.std.proofs.Math.Decide.{ℕ_discrete}
use Rattle.words.specs.Bools.{true_or_false}
use Rattle.network.specs.declared.Network.{Network}
use Rattle.network.specs.declared.Place.{Place}
use Rattle.network.specs.Stations.{unknown_count}
use Rattle.normals.specs.Formulas.{entry_n, entry_u}
use Rattle.chains.specs.Chains.{all_tied, first_untied}
use Rattle.acceptance.specs.Tests.{at, by_rows, lengths_fit, corrections_small, inverse_small, defect_small, residual_small, refinement_small}
use Rattle.acceptance.specs.Judge.{Answer, refusal_number, answer_number, refuse_unless, judge_numbers, judge}
use Rattle.acceptance.specs.JudgeLaws.{refusal-least}
use Rattle.acceptance.specs.Exactly.{answer}
use Rattle.acceptance.specs.declared.Refusal.{Refusal}
use Rattle.acceptance.specs.declared.Refusal.TheVariants.{Lengths, Untied, Correction, Inverse, Defect, Residual, Refinement}

-- ════ tests made in turn, from number k on
unfoldable in_turn : (ℕ → Bool) → (ℕ → Refusal) → ℕ → ℕ → Answer
in_turn test refusal k zero = Ok tt
in_turn test refusal k (suc left) = refuse_unless (test k) (refusal k) (in_turn test refusal (suc k) left)

pub data TestsAnswer (test : ℕ → Bool) (refusal : ℕ → Refusal) (all : ℕ) : Answer → Type 0 where
  passes : ((j : ℕ) → j < all → test j ≡ true) → TestsAnswer test refusal all (Ok tt)
  fails : (k : ℕ) → k < all → ((j : ℕ) → j < k → test j ≡ true) → test k ≡ false → TestsAnswer test refusal all (Err (refusal k))

tests-answer : (test : ℕ → Bool) (refusal : ℕ → Refusal) (all left k : ℕ) → k + left ≡ all → ((j : ℕ) → j < k → test j ≡ true) → TestsAnswer test refusal all (in_turn test refusal k left)
unfolding in_turn
tests-answer test refusal all zero k e h = passes (λ j l. h j (omega arith))
tests-answer test refusal all (suc left) k e h = go (λ p. tests-answer test refusal all left (suc k) (omega arith) (λ j l. more p j l (ℕ_discrete j k))) (true_or_false (test k))
  where
    more : test k ≡ true → (j : ℕ) → j < suc k → Dec (j ≡ k) → test j ≡ true
    more p j l (yes q) = ap test q ∙ p
    more p j l (no q) = h j (omega arith)

    go : (test k ≡ true → TestsAnswer test refusal all (in_turn test refusal (suc k) left)) → (test k ≡ true) ⊎ (test k ≡ false)
        → TestsAnswer test refusal all (refuse_unless (test k) (refusal k) (in_turn test refusal (suc k) left))
    go rest (inl p) = rw p (rest p)
    go rest (inr p) = rw p (fails k (omega arith) h p)

-- ════ the seven tests as they are computed; test 2 is the search, which chains' ChainLaws shows to be exact
module _ (net : Network) (places : List Place) (x m : List ℤ) (room : Bool) where
  -- test k + 1, and its refusal
  unfoldable pub computed : ℕ → Bool
  computed zero = lengths_fit (unknown_count net.stations) x m room
  computed (suc zero) = all_tied net places
  computed (suc (suc zero)) = corrections_small x
  computed (suc (suc (suc zero))) = inverse_small m
  computed (suc (suc (suc (suc zero)))) = defect_small (unknown_count net.stations) (entry_n net.stations places) (by_rows (unknown_count net.stations) m)
  computed (suc (suc (suc (suc (suc zero))))) = residual_small (unknown_count net.stations) (entry_n net.stations places) (entry_u net.stations places) (at x)
  computed (suc (suc (suc (suc (suc (suc k)))))) = refinement_small (unknown_count net.stations) (entry_n net.stations places) (by_rows (unknown_count net.stations) m) (entry_u net.stations places) (at x)

  unfoldable pub refusal : ℕ → Refusal
  refusal zero = Lengths
  refusal (suc zero) = Untied (first_untied net places)
  refusal (suc (suc zero)) = Correction
  refusal (suc (suc (suc zero))) = Inverse
  refusal (suc (suc (suc (suc zero)))) = Defect
  refusal (suc (suc (suc (suc (suc zero))))) = Residual
  refusal (suc (suc (suc (suc (suc (suc k)))))) = Refinement

  in_turn_lem : answer net places x m room ≡ in_turn computed refusal 0 7
  unfolding answer judge judge_numbers in_turn computed refusal
  in_turn_lem = refl

  pub answer-tested : TestsAnswer computed refusal 7 (answer net places x m room)
  answer-tested = subst (TestsAnswer computed refusal 7) (sym in_turn_lem) (tests-answer computed refusal 7 7 0 refl (λ j l. absurd (omega arith)))

  pub number_is : (k : ℕ) → k < 7 → refusal_number (refusal k) ≡ 10 + k
  unfolding refusal
  number_is zero l = refl
  number_is (suc zero) l = refl
  number_is (suc (suc zero)) l = refl
  number_is (suc (suc (suc zero))) l = refl
  number_is (suc (suc (suc (suc zero)))) l = refl
  number_is (suc (suc (suc (suc (suc zero))))) l = refl
  number_is (suc (suc (suc (suc (suc (suc zero)))))) l = refl
  number_is (suc (suc (suc (suc (suc (suc (suc k))))))) l = absurd (omega arith)

  pub accepted-tests : answer net places x m room ≡ Ok tt → (k : ℕ) → k < 7 → computed k ≡ true
  accepted-tests e = go (answer net places x m room) answer-tested e
    where
      go : (a : Answer) → TestsAnswer computed refusal 7 a → a ≡ Ok tt → (k : ℕ) → k < 7 → computed k ≡ true
      go a (passes h) q = h
      go a (fails k l before fail) q = absurd (omega (arith, refusal-least (refusal k), ap answer_number q))
