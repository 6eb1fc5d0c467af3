-- Demand 3 of runs that have files entered among them: after an accepted opening, any run of C enters, strikes, undos and files entered, refused ones among them, leaves the bytes, and gave the
-- answers, of the run of its single calls, a file's entries in their order. Of that run demand 3 says what the ledger says. Assumes nothing.
use Rattle.files.specs.declared.FileRefusal.{FileRefusal}
use Rattle.std.specs.Prelude.{ℕ, ◌≡◌, refl, true, List, [], ◌∷◌, ◌++◌, length, ℤ, pos, Result, Ok, Err}
use Rattle.std.proofs.Common.{sym, ap, ◌∙◌}
use Rattle.words.specs.Runs.{put_words}
use Rattle.book.specs.declared.Call.{Call}
use Rattle.book.specs.Run.{final, answers, final-append, answers-append}
use Rattle.layout.specs.Bytes.{bytes_fit}
use Rattle.book_files.specs.Entering.{calls_in, enter_answer}
use Rattle.dombrelat.specs.Calls.{bytes_next, bytes_says, open_call}
use Rattle.dombrelat.specs.FileCalls.{entered_into, enter_call}
use Rattle.dombrelat.specs.FileCallLaws.{run_fits}
use Rattle.dombrelat.specs.Demand3.{bytes_after, bytes_answers, Demand}
use Rattle.dombrelat.specs.Demand3Holds.{opened-fits-next, demand_3}

-- ════ the statement
-- what a host does to a book after its opening: a single edit or undo, or a file entered with bytes lent for its answers
pub data Step : Type 0 where
  single : Call → Step
  whole : (file before : List ℕ) → Step

-- the calls that a step makes: those of a file's entries, none of a file that is refused
abbrev pub entered_calls : Result (Unit {0}) FileRefusal → List ℕ → List Call
entered_calls (Ok u) file = calls_in file
entered_calls (Err r) file = []

abbrev pub calls_of : Step → List Call
calls_of (single c) = c ∷ []
calls_of (whole file before) = entered_calls (enter_answer file (length before)) file

unfoldable pub all_calls : List Step → List Call
all_calls [] = []
all_calls (x ∷ xs) = calls_of x ++ all_calls xs

-- the bytes that a step leaves, and the answers to its calls: those of a file's entries are the words that `enter_call` writes (`answers-written`)
abbrev pub step_next : List ℕ → Step → List ℕ
step_next s (single c) = bytes_next s c
step_next s (whole file before) = (enter_call s file before).book

abbrev pub step_says : List ℕ → Step → List ℤ
step_says s x = answers bytes_next bytes_says s (calls_of x)

unfoldable pub all_answers : List ℕ → List Step → List ℤ
all_answers s [] = []
all_answers s (x ∷ xs) = step_says s x ++ all_answers (step_next s x) xs

pub record FileRun (list s : List ℕ) (steps : List Step) : Type 0 where
  pub left : final step_next (open_call list s).bytes steps ≡ bytes_after list s (all_calls steps)
  pub answered : all_answers (open_call list s).bytes steps ≡ bytes_answers list s (all_calls steps)
  pub demand : Demand list s (all_calls steps)

abbrev pub FileRuns : Type 0
FileRuns = (list s : List ℕ) → (open_call list s).answer ≡ pos 0 → (steps : List Step) → FileRun list s steps

-- ════ a step is the run of its calls
step_run : (s : List ℕ) → bytes_fit s ≡ true → (x : Step) → step_next s x ≡ final bytes_next s (calls_of x)
unfolding final enter_call
step_run s f (single c) = refl
step_run s f (whole file before) = let z : (enter_call s file before).book ≡ final bytes_next s (entered_calls (enter_answer file (length before)) file) = rw f (go (enter_answer file (length before))) in z
  where
    go : (e : Result (Unit {0}) FileRefusal) → (entered_into e s file before).book ≡ final bytes_next s (entered_calls e file)
    go (Ok u) = refl
    go (Err r) = refl

step_fits : (s : List ℕ) → bytes_fit s ≡ true → (x : Step) → bytes_fit (step_next s x) ≡ true
step_fits s f x = ap bytes_fit (step_run s f x) ∙ run_fits s f (calls_of x)

steps_left : (s : List ℕ) → bytes_fit s ≡ true → (xs : List Step) → final step_next s xs ≡ final bytes_next s (all_calls xs)
unfolding final all_calls
steps_left s f [] = refl
steps_left s f (x ∷ xs) =
    steps_left (step_next s x) (step_fits s f x) xs
    ∙ ap (λ (t : List ℕ). final bytes_next t (all_calls xs)) (step_run s f x)
    ∙ sym (final-append bytes_next s (calls_of x) (all_calls xs))

steps_said : (s : List ℕ) → bytes_fit s ≡ true → (xs : List Step) → all_answers s xs ≡ answers bytes_next bytes_says s (all_calls xs)
unfolding all_answers all_calls answers
steps_said s f [] = refl
steps_said s f (x ∷ xs) =
    ap (λ (l : List ℤ). step_says s x ++ l) (steps_said (step_next s x) (step_fits s f x) xs ∙ ap (λ (t : List ℕ). answers bytes_next bytes_says t (all_calls xs)) (step_run s f x))
    ∙ sym (answers-append bytes_next bytes_says s (calls_of x) (all_calls xs))

-- the words that a file entered writes are the answers to its calls
pub answers-written : (s file before : List ℕ) → bytes_fit s ≡ true → enter_answer file (length before) ≡ Ok tt → (enter_call s file before).answers ≡ put_words before 0 (step_says s (whole file before))
unfolding enter_call
answers-written s file before f e = rw (f, e)

pub file_runs : FileRuns
file_runs list s a steps =
    let f = opened-fits-next list s a in
    record { left = steps_left _ f steps; answered = steps_said _ f steps; demand = demand_3 list s a (all_calls steps) }
