-- Turn after turn. Assumes nothing.
use Rattle.std.specs.Prelude.{ℕ, ◌≤◌, ◌≡◌, refl, Bool, true, false, cond, List, [], ◌∷◌, Option, unwrap_or, length}
use Rattle.std.proofs.Common.{arith, length-take}
use Rattle.text.specs.Lines.{KeptLine, nothing_held}
use Rattle.input_lines.specs.Runs.{Phase, unopened, opened, ended, Run, start}
use Rattle.night_print.specs.declared.Progress.{Progress}
use Rattle.night_print.specs.declared.Progress.TheVariants as progress
use Rattle.adjustment.specs.Chunks.{Takes}
use Rattle.night_print.specs.Closing.{Concludes}
use Rattle.night_print.specs.Steps.{is_ended, Steps}
use Rattle.night_print.specs.StepLaws.{differ}
use Rattle.night_print.specs.Whole.{ChunksTaken, no_more, chunks-more, whole-text, stopped-text}
use Rattle.adjust.specs.declared.Finish.TheVariants.{Printed, Refused, Unread, Unwritten}
use Rattle.adjust.specs.Program.{read_gave, ProgramEnds, ends-printed, ends_refused, ends_unread, ends_unwritten}

-- the turns so far have led to the run r, with k held of a line
pub record Led (r : Run) (k : KeptLine) : Type 0 where
  pub chunks : List (List ℕ)
  pub bytes : List ℕ
  pub led : ChunksTaken start nothing_held chunks bytes r k
  pub going : is_ended r.phase ≡ false

pub led_start : {r : Run} {k : KeptLine} → r ≡ start → k ≡ nothing_held → Led r k
unfolding is_ended
led_start e b = rw (e, b) (record { chunks = []; bytes = []; led = no_more; going = refl })

-- a read gives no more than the chunk holds
pub gave_few : (answer : Option ℕ) (chunk : List ℕ) → length (read_gave answer chunk) ≤ length chunk
gave_few answer chunk = let e = length-take (unwrap_or answer 0) chunk in omega arith

-- ════ what a turn's progress says of the step
ended_is : (p : Phase) → is_ended p ≡ true → p ≡ ended
unfolding is_ended
ended_is unopened e = differ (cc)
ended_is (opened b) e = differ (cc)
ended_is ended e = refl

module _ {r r₁ : Run} {k k₁ : KeptLine} {failed : Bool} {came before after : List ℕ} {p : Progress} {n : ℕ} (s : Steps r k failed came before p r₁ k₁ n after) where
  pub took : p ≡ progress.Reading → Takes r k came before r₁ k₁ n after × (is_ended r₁.phase ≡ false)
  took e = by failed came refl refl
    where
      going : (t : Bool) → is_ended r₁.phase ≡ t → p ≡ cond t progress.Refused progress.Reading → is_ended r₁.phase ≡ false
      going true i q = differ (cc)
      going false i q = i

      by : (f : Bool) (c : List ℕ) → failed ≡ f → came ≡ c → Takes r k came before r₁ k₁ n after × (is_ended r₁.phase ≡ false)
      by true c f g = let z = (s.unread f).0 in differ (cc)
      by false [] f g = let z = (s.ends f g).0 in differ (cc)
      by false (b ∷ c) f g =
          let t = s.takes f (λ z. differ (cc)) in
          (t.1, going (is_ended r₁.phase) refl t.0)

  pub was_ended : p ≡ progress.Refused → Takes r k came before r₁ k₁ n after × (r₁.phase ≡ ended)
  was_ended e = by failed came refl refl
    where
      last : (t : Bool) → is_ended r₁.phase ≡ t → p ≡ cond t progress.Refused progress.Reading → r₁.phase ≡ ended
      last true i q = ended_is r₁.phase i
      last false i q = differ (cc)

      by : (f : Bool) (c : List ℕ) → failed ≡ f → came ≡ c → Takes r k came before r₁ k₁ n after × (r₁.phase ≡ ended)
      by true c f g = let z = (s.unread f).0 in differ (cc)
      by false [] f g = let z = (s.ends f g).0 in differ (cc)
      by false (b ∷ c) f g =
          let t = s.takes f (λ z. differ (cc)) in
          (t.1, last (is_ended r₁.phase) refl t.0)

  pub closed : p ≡ progress.Finished → Concludes r k before n after
  closed e = by failed came refl refl
    where
      never : (t : Bool) → p ≡ cond t progress.Refused progress.Reading → Concludes r k before n after
      never true q = differ (cc)
      never false q = differ (cc)

      by : (f : Bool) (c : List ℕ) → failed ≡ f → came ≡ c → Concludes r k before n after
      by true c f g = let z = (s.unread f).0 in differ (cc)
      by false [] f g = (s.ends f g).1
      by false (b ∷ c) f g = never (is_ended r₁.phase) (s.takes f (λ z. differ (cc))).0

  -- ════ one turn more, and the end
  module _ (l : Led r k) where
    pub led_on : p ≡ progress.Reading → Led r₁ k₁
    led_on e = let t = took e in record { chunks = _; bytes = _; led = chunks-more l.led t.0; going = t.1 }

    pub ran_printed : (chunk : List ℕ) → p ≡ progress.Finished → ProgramEnds Printed chunk after
    ran_printed chunk e = ends-printed l.led l.going (closed e) (whole-text l.led (closed e))

pub ran-refused :
    {r r₁ : Run} {k k₁ : KeptLine} {failed : Bool} {chunk before after : List ℕ} {p : Progress} {n : ℕ} (answer : Option ℕ) →
    Steps r k failed (read_gave answer chunk) before p r₁ k₁ n after →
    Led r k →
    p ≡ progress.Refused →
    ProgramEnds Refused chunk after
ran-refused answer s l e =
    let t = was_ended s e in
    let c = chunks-more l.led t.0 in
    ends_refused answer l.led l.going t.0 t.1 (λ rest. stopped-text rest c t.1)

pub ran_unread : {r : Run} {k : KeptLine} (chunk out : List ℕ) → Led r k → ProgramEnds Unread chunk out
ran_unread chunk out l = ends_unread l.led

pub ran_unwritten : {r : Run} {k : KeptLine} (chunk out : List ℕ) → Led r k → ProgramEnds Unwritten chunk out
ran_unwritten chunk out l = ends_unwritten l.led
