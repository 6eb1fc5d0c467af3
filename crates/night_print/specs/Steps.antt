-- One step of a run, by what a read gave. Assumes nothing.
use Rattle.std.specs.Prelude.{ℕ, ◌+◌, ◌≤◌, ◌≡◌, Bool, true, false, cond, List, [], Option, unwrap_or, length, ℤ}
use Rattle.text.specs.Lines.{KeptLine}
use Rattle.commands.specs.Commands.{longest_line}
use Rattle.input_lines.specs.Runs.{Phase, unopened, opened, ended, Run}
use Rattle.input_lines.specs.States.{Ready}
use Rattle.adjustment.specs.declared.Taken.{Taken}
use Rattle.night_print.specs.declared.Progress.{Progress}
use Rattle.night_print.specs.declared.Progress.TheVariants.{Reading, Finished, Refused, Unread}
use Rattle.adjustment.specs.Chunks.{Takes}
use Rattle.night_print.specs.Closing.{Concludes}

-- "A refused opening … ends" the run
unfoldable pub is_ended : Phase → Bool
is_ended unopened = false
is_ended (opened b) = false
is_ended ended = true

-- the bytes that a read gave: none where it failed
abbrev pub bytes_in : Option (List ℕ) → List ℕ
bytes_in came = unwrap_or came []

-- from the run r, with k held of a line, where a read gave the bytes `came` or `failed`: what is to be written stands at the front of `after`, up to n. The run that is left, r₁ with k₁ held, is
-- free at the end of the input and after a failed read
pub record Steps (r : Run) (k : KeptLine) (failed : Bool) (came before : List ℕ) (p : Progress) (r₁ : Run) (k₁ : KeptLine) (n : ℕ) (after : List ℕ) : Type 0 where
  -- a read that failed: nothing more is printed, no sheet of half an input
  pub unread : failed ≡ true → (p ≡ Unread) × (n ≡ 0) × (after ≡ before)
  -- the end of the input: the last line, where it lacks its LF, and the end
  pub ends : failed ≡ false → came ≡ [] → (p ≡ Finished) × Concludes r k before n after
  -- a chunk: its lines are taken, and the run reads on unless its opening was refused
  pub takes : failed ≡ false → (came ≡ [] → ⊥) → (p ≡ cond (is_ended r₁.phase) Refused Reading) × Takes r k came before r₁ k₁ n after

-- what the next step asks, where there is one
pub record Continues (t : Taken) (came : List ℕ) (p : Progress) (t₁ : Taken) (printed : ℕ) (bytes : List ℕ) (list x m : List ℤ) (out : List ℕ) : Type 0 where
  pub ready : p ≡ Reading → Ready t₁.state bytes list x m
  pub short : p ≡ Reading → t₁.len ≤ longest_line
  pub lines : p ≡ Reading → t₁.state.lines ≤ t.state.lines + length came
  pub within : printed ≤ length out
