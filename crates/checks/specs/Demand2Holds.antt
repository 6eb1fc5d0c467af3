-- Demand 2 holds. The answer is that of seven tests made in turn, so its number is that of the first that fails; what follows from acceptance follows from the tests. Assumes nothing.
use Prim.Native.Nat.{ℕ, zero, suc, ◌+◌, ◌*◌, ◌<◌}
use Rattle.std.specs.Prelude.{◌≡◌, Bool, false, List, ℤ, pos, nat_abs, ◌-ℤ◌, ◌*ℤ◌, Ok, Err}
use Rattle.std.proofs.Math.Path.{refl}
use Rattle.std.proofs.Common.{sym, ap, ◌∙◌, subst, le_trans, arith, lit≤}
use Rattle.std.proofs.Math.Bool.{true}
use Rattle.std.proofs.Math.Decide.{dec_lt}
use Rattle.integers.specs.Sums.{δ}
use Rattle.words.specs.Bools.{clash}
use Rattle.network.specs.Records.{record_at, acts}
use Rattle.normals.specs.ByRules.{ByRules}
use Rattle.normals.specs.Sizes.{N_row, N_all}
use Rattle.normals.specs.Symmetry.{N_sym}
use Rattle.chains.specs.Chains.{FirstWithoutChain}
use Rattle.chains.specs.ChainLaws.{EndsInRange, all_tied_lem, tied_all, first_untied_lem}
use Rattle.integers.specs.Inverses.{S}
use Rattle.acceptance.specs.Tests.{at, defect_small, refinement_small}
use Rattle.acceptance.specs.Judge.{refusal_number, refusal_unknown, answer_number, Answer}
use Rattle.acceptance.specs.JudgeLaws.{refusal-least}
use Rattle.acceptance.specs.Follows.{RoundedAnswer, RoundedInverse, Moderate, correction_bound, column_bound, rounded_defect, rounded_residual, rounded_refinement}
use Rattle.acceptance.specs.Exact.{exists, unique}
use Rattle.acceptance.specs.Exactly.{answer, book_in_range}
use Rattle.acceptance.specs.InTurn.{TestsAnswer, passes, fails, computed, refusal, answer-tested, number_is}
use Rattle.acceptance.specs.declared.Refusal.{Refusal}
use Rattle.book.specs.declared.Book.{Book}
use Rattle.book.specs.Book.{sound}
use Rattle.residuals.specs.Residuals.{residual_variance}
use Rattle.sheet.specs.SheetLaws.{sheet_length}
use Rattle.residuals.specs.Held.{held_stays, held_exact}
use Rattle.checks.specs.Checks.{checked, has_room, on_acceptance, sheet_after}
use Rattle.checks.specs.CheckLaws.{rules, checked-is}
use Rattle.checks.specs.Freedom.{freedom_nonnegative}
use Rattle.checks.specs.InverseWeights.{InverseWeights}
use Rattle.checks.specs.ExactVariance.{exact_residual_variance, variance-near}
use Rattle.checks.specs.Demand2.{n, N, u, M, Test, FirstHold, Promises, DemandOf, SheetDemand, Demand2}

module _ (b : Book) (x m : List ℤ) (fits : Bool) where
  -- test k + 1 as it is computed, and its refusal
  abbrev test : ℕ → Bool
  test = computed b.network b.places x m fits

  abbrev reason : ℕ → Refusal
  reason = refusal b.network b.places x m fits

  -- ════ the computed tests are document 01's
  module _ (g : ByRules b.network b.places) where
    ends : EndsInRange b.network b.places
    ends = (book_in_range b.network b.places g).ends

    holds : (k : ℕ) → test k ≡ true → Test b x m fits k
    unfolding computed Test
    holds zero e = e
    holds (suc zero) e = all_tied_lem b.network b.places ends e
    holds (suc (suc zero)) e = e
    holds (suc (suc (suc zero))) e = e
    holds (suc (suc (suc (suc zero)))) e = e
    holds (suc (suc (suc (suc (suc zero))))) e = e
    holds (suc (suc (suc (suc (suc (suc k)))))) e = e

    tested : (k : ℕ) → Test b x m fits k → test k ≡ true
    unfolding computed Test
    tested zero e = e
    tested (suc zero) e = tied_all b.network b.places ends e
    tested (suc (suc zero)) e = e
    tested (suc (suc (suc zero))) e = e
    tested (suc (suc (suc (suc zero)))) e = e
    tested (suc (suc (suc (suc (suc zero))))) e = e
    tested (suc (suc (suc (suc (suc (suc k)))))) e = e

    -- ════ what follows from acceptance
    promises : ((j : ℕ) → j < 7 → test j ≡ true) → Promises b x m
    unfolding computed
    promises h =
        let five : defect_small (n b) (N b) (M b m) ≡ true = h 4 (omega arith) in
        let seven : refinement_small (n b) (N b) (M b m) (u b) (at x) ≡ true = h 6 (omega arith) in
        record {
          corrections = correction_bound (n b) (N b) (M b m) (u b) (at x) five seven;
          answer = exists (n b) (N b) (u b) (M b m) five;
          one = unique (n b) (N b) (M b m) (u b) five;
          columns = column_bound (n b) (N b) (M b m) (u b) (at x) five;
          inverse = λ j l. exists (n b) (N b) (λ k. δ k j) (M b m) five;
          held = λ q e. (held_stays b.network.stations q e x, held_exact b.network.stations q e m);
          freedom = freedom_nonnegative b.network.stations b.places (M b m) five;
        }

    -- the records' rules bound N
    moderate : Moderate (n b) (N b)
    moderate =
        record {
          symmetric = N_sym b.network.stations b.places;
          rows = λ i. le_trans (N_row b.network b.places g (n b) i) (lit≤ tt);
          whole = le_trans (N_all b.network b.places g (n b)) (lit≤ tt);
        }

    complete : RoundedAnswer (n b) (N b) (u b) (at x) → RoundedInverse (n b) (N b) (M b m) → FirstHold b x m fits 4 → (j : ℕ) → j < 7 → Dec (j < 4) → Test b x m fits j
    unfolding Test
    complete p q h j l (yes k) = h j k
    complete p q h zero l (no k) = absurd (omega arith)
    complete p q h (suc zero) l (no k) = absurd (omega arith)
    complete p q h (suc (suc zero)) l (no k) = absurd (omega arith)
    complete p q h (suc (suc (suc zero))) l (no k) = absurd (omega arith)
    complete p q h (suc (suc (suc (suc zero)))) l (no k) = rounded_defect (n b) (N b) (M b m) (u b) (at x) moderate q
    complete p q h (suc (suc (suc (suc (suc zero))))) l (no k) = rounded_residual (n b) (N b) (M b m) (u b) (at x) moderate p
    complete p q h (suc (suc (suc (suc (suc (suc i)))))) l (no k) =
        rounded_refinement (n b) (N b) (M b m) (u b) (at x) (rounded_defect (n b) (N b) (M b m) (u b) (at x) moderate q) p

    variances : (i : RoundedInverse (n b) (N b) (M b m)) (p : ℕ) → p < 256 → (Q : ℕ → ℕ → ℤ) (d : ℕ) → InverseWeights (record_at b.places p) Q d
        → (a : ℕ) → a < 3 → acts a (record_at b.places p) ≡ true
        → nat_abs (pos d *ℤ pos i.divisor *ℤ residual_variance b.network.stations m (record_at b.places p) a
        -ℤ S *ℤ exact_residual_variance b.network.stations (record_at b.places p) Q d i.Z i.divisor a) < 3 * (d * i.divisor)
    variances i p h = variance-near b.network g.network b.places m i (record_at b.places p) (g.each p h)

    -- ════ the answer
    untied : (k : ℕ) → k ≡ 1 → test k ≡ false → FirstWithoutChain b.network b.places (refusal_unknown (reason k))
    unfolding computed refusal
    untied zero e f = absurd (omega arith)
    untied (suc zero) e f = first_untied_lem b.network b.places ends f
    untied (suc (suc k)) e f = absurd (omega arith)

    otherwise : (k : ℕ) → (k ≡ 1 → ⊥) → refusal_unknown (reason k) ≡ 0
    unfolding refusal
    otherwise zero e = refl
    otherwise (suc zero) e = absurd (e refl)
    otherwise (suc (suc zero)) e = refl
    otherwise (suc (suc (suc zero))) e = refl
    otherwise (suc (suc (suc (suc zero)))) e = refl
    otherwise (suc (suc (suc (suc (suc zero))))) e = refl
    otherwise (suc (suc (suc (suc (suc (suc k)))))) e = refl

    judged : (a : Answer) → TestsAnswer test reason 7 a → DemandOf b x m fits a
    judged a (passes h) =
        record {
          accepted = ((λ e j l. holds j (h j l)), (λ f. refl));
          refused = λ k l. ((λ e. absurd (omega arith)), (λ f. absurd (f.1 (holds k (h k l)))));
          untied = λ e. absurd (let z : ◌≡◌ {A = ℕ} 0 11 = e in omega arith);
          otherwise = λ e. refl;
          promises = λ e. promises h;
          complete = λ p q f j l. complete p q f j l (dec_lt j 4);
          variances = variances;
        }
    judged a (fails k l before fail) =
        let number = number_is b.network b.places x m fits k l in
        record {
          accepted = ((λ e. absurd (omega arith)), (λ f. clash (tested k (f k l)) fail));
          refused = λ i h. ((λ e. first i h (let s : k ≡ i = omega arith in s)), (λ f. same i f (dec_lt k i) (dec_lt i k)));
          untied = λ e. untied k (omega arith) fail;
          otherwise = λ e. otherwise k (λ q. e (ap (λ (j : ℕ). refusal_number (reason j)) q ∙ number_is b.network b.places x m fits 1 (omega arith)));
          promises = λ e. absurd (omega arith);
          complete = λ p q f j h. complete p q f j h (dec_lt j 4);
          variances = variances;
        }
      where
        first : (i : ℕ) → i < 7 → k ≡ i → FirstHold b x m fits i × (Test b x m fits i → ⊥)
        first i h e = ((λ j q. holds j (before j (omega arith))), (λ t. clash (tested i t) (ap test (sym e) ∙ fail)))

        same : (i : ℕ) → FirstHold b x m fits i × (Test b x m fits i → ⊥) → Dec (k < i) → Dec (i < k) → refusal_number (reason k) ≡ 10 + i
        same i f (yes q) d = clash (tested k (f.0 k q)) fail
        same i f (no q) (yes d) = absurd (f.1 (holds i (before i d)))
        same i f (no q) (no d) = number_is b.network b.places x m fits k l ∙ (let s : 10 + k ≡ 10 + i = omega arith in s)

-- ════ a sound book
module _ (b : Book) (sure : sound b ≡ true) (x m : List ℤ) where
  judged_by : (fits : Bool) → DemandOf b x m fits (checked b x m fits)
  judged_by fits = subst (DemandOf b x m fits) (sym (checked-is b sure x m fits)) (judged b x m fits (rules b sure) (answer b.network b.places x m fits) (answer-tested b.network b.places x m fits))

  written : (sheet : List ℤ) (a : Answer) → checked b x m (has_room b sheet) ≡ a → SheetDemand b x m sheet (sheet_after b x m sheet) (answer_number a)
  unfolding sheet_after on_acceptance
  written sheet (Ok u) e = record { written = λ z. rw e; long = sheet_length b.network b.places x m; kept = λ z. absurd (z refl) }
  written sheet (Err r) e = record { written = λ z. absurd (omega (arith, refusal-least r)); long = sheet_length b.network b.places x m; kept = λ z. rw e }

pub demand_2 : Demand2
demand_2 b sure x m = (judged_by b sure x m, (λ sheet. written b sure x m sheet (checked b x m (has_room b sheet)) refl))
