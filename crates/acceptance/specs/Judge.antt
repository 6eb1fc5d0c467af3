-- The answer to a check before its sheet: the first of the seven tests that fails, or acceptance. Assumes nothing.
use Rattle.std.specs.Prelude.{ℕ, Bool, true, false, List, ℤ, Result, Ok, Err}
use Rattle.network.specs.Stations.{unknown_count}
use Rattle.network.specs.declared.Network.{Network}
use Rattle.network.specs.declared.Place.{Place}
use Rattle.chains.specs.Chains.{all_tied, first_untied}
use Rattle.acceptance.specs.Tests.{at, by_rows, lengths_fit, corrections_small, inverse_small, defect_small, residual_small, refinement_small}
use Rattle.acceptance.specs.declared.Refusal.{Refusal}
use Rattle.acceptance.specs.declared.Refusal.TheVariants.{Lengths, Untied, Correction, Inverse, Defect, Residual, Refinement, TooLarge}

-- what a check answers: nothing more where the pair is accepted, else why it is refused
abbrev pub Answer : Type 0
Answer = Result (Unit {0}) Refusal

-- ════ this paper's numbers
-- "10..16 | check | test 1, 2, 3, 4, 5, 6, 7 fails, in that order"; 9: "an entry of N or u, or T, beyond ±2^62"
abbrev pub refusal_number : Refusal → ℕ
refusal_number Lengths = 10
refusal_number (Untied unknown) = 11
refusal_number Correction = 12
refusal_number Inverse = 13
refusal_number Defect = 14
refusal_number Residual = 15
refusal_number Refinement = 16
refusal_number TooLarge = 9

-- 0 where "the call is not refused"
abbrev pub answer_number : Answer → ℕ
answer_number (Ok u) = 0
answer_number (Err refusal) = refusal_number refusal

-- "for 11 also the first unknown without a chain", by its number from 1; 0 in every other answer
abbrev pub refusal_unknown : Refusal → ℕ
refusal_unknown Lengths = 0
refusal_unknown (Untied unknown) = unknown
refusal_unknown Correction = 0
refusal_unknown Inverse = 0
refusal_unknown Defect = 0
refusal_unknown Residual = 0
refusal_unknown Refinement = 0
refusal_unknown TooLarge = 0

abbrev pub answer_unknown : Answer → ℕ
answer_unknown (Ok u) = 0
answer_unknown (Err refusal) = refusal_unknown refusal

-- ════ the tests in their order
-- a test that fails settles the answer
abbrev pub refuse_unless : Bool → Refusal → Answer → Answer
refuse_unless true refusal next = next
refuse_unless false refusal next = Err refusal

-- tests 3 to 7; M by rows of n
unfoldable pub judge_numbers : ℕ → (ℕ → ℕ → ℤ) → (ℕ → ℤ) → List ℤ → List ℤ → Answer
judge_numbers n N u x m =
    refuse_unless (corrections_small x) Correction
    (refuse_unless (inverse_small m) Inverse
    (refuse_unless (defect_small n N (by_rows n m)) Defect
    (refuse_unless (residual_small n N u (at x)) Residual
    (refuse_unless (refinement_small n N (by_rows n m) u (at x)) Refinement
    (Ok tt)))))

-- all seven, with N and u of the book; room: the sheet, where one is lent, has room
unfoldable pub judge : Network → List Place → (ℕ → ℕ → ℤ) → (ℕ → ℤ) → List ℤ → List ℤ → Bool → Answer
judge net places N u x m room =
    refuse_unless (lengths_fit (unknown_count net.stations) x m room) Lengths
    (refuse_unless (all_tied net places) (Untied (first_untied net places))
    (judge_numbers (unknown_count net.stations) N u x m))
