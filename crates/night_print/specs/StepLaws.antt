-- The three cases of a step. Assumes nothing.
use Rattle.std.specs.Prelude.{ℕ, ◌≤◌, ◌≡◌, refl, Bool, true, false, cond, List, [], ◌∷◌, length, ℤ}
use Rattle.std.proofs.Common.{sym, ap, ◌∙◌, arith}
use Rattle.book.specs.declared.Book.{Book}
use Rattle.text.specs.Lines.{KeptLine}
use Rattle.input_lines.specs.Runs.{Run}
use Rattle.input_lines.specs.States.{phase_of, ended_phase}
use Rattle.input_lines.specs.declared.Phase as code-phase
use Rattle.input_lines.specs.declared.Phase.TheVariants.{Unopened, Opened, Ended}
use Rattle.night_print.specs.declared.Progress.{Progress}
use Rattle.night_print.specs.declared.Progress.TheVariants.{Reading, Finished, Refused, Unread}
use Rattle.adjustment.specs.Chunks.{Takes}
use Rattle.night_print.specs.Closing.{Concludes}
use Rattle.adjustment.specs.declared.Taken.{Taken}
use Rattle.night_print.specs.Steps.{is_ended, Steps, Continues}

pub ended_phase_lem : (p : code-phase.Phase) (b : Book) → is_ended (phase_of p b) ≡ ended_phase p
unfolding is_ended phase_of
ended_phase_lem Unopened b = refl
ended_phase_lem Opened b = refl
ended_phase_lem Ended b = refl

-- anything follows where two different things are equal
pub differ : {A : Type 0} → ◌≡◌ {A = ℕ} 0 1 → A
differ e = absurd (omega arith)

never : {A : Type 0} → true ≡ false → A
never e = differ (cc)

none_left : (l : List ℕ) → length l ≡ 0 → l ≡ []
none_left [] e = refl
none_left (c ∷ l) e = absurd (omega arith)

module _ {r r₁ : Run} {k k₁ : KeptLine} {failed : Bool} {came before : List ℕ} where
  pub step_unread : failed ≡ true → Steps r k failed came before Unread r₁ k₁ 0 before
  step_unread e =
      record {
        unread = λ f. (refl, refl, refl);
        ends = λ f c. never (sym e ∙ f);
        takes = λ f c. never (sym e ∙ f);
      }

  pub step_ends : {n : ℕ} {after : List ℕ} → failed ≡ false → length came ≡ 0 → Concludes r k before n after → Steps r k failed came before Finished r₁ k₁ n after
  step_ends e z h =
      record {
        unread = λ f. never (sym f ∙ e);
        ends = λ f c. (refl, h);
        takes = λ f c. absurd (c (none_left came z));
      }

  pub step_takes : {p : Progress} {n : ℕ} {after : List ℕ} → failed ≡ false → (length came ≡ 0 → ⊥) → p ≡ cond (is_ended r₁.phase) Refused Reading → Takes r k came before r₁ k₁ n after → Steps r k failed came before p r₁ k₁ n after
  step_takes e z p h =
      record {
        unread = λ f. never (sym f ∙ e);
        ends = λ f c. absurd (z (ap length c));
        takes = λ f c. (p, h);
      }

-- ════ what the next step asks, where there is one
not_unread : {A : Type 0} → Unread ≡ Reading → A
not_unread e = differ (cc)

not_finished : {A : Type 0} → Finished ≡ Reading → A
not_finished e = differ (cc)

module _ {t t₁ : Taken} {came : List ℕ} {printed : ℕ} {bytes : List ℕ} {list x m : List ℤ} {out : List ℕ} where
  pub continues_unread : printed ≤ length out → Continues t came Unread t₁ printed bytes list x m out
  continues_unread h = record { ready = λ e. not_unread e; short = λ e. not_unread e; lines = λ e. not_unread e; within = h }

  pub continues_finished : printed ≤ length out → Continues t came Finished t₁ printed bytes list x m out
  continues_finished h = record { ready = λ e. not_finished e; short = λ e. not_finished e; lines = λ e. not_finished e; within = h }
