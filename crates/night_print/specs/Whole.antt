-- A whole text, however it is cut into chunks: what the calls print one after the other is what `print_of` says of the text. Assumes nothing.
use Rattle.std.specs.Prelude.{ℕ, suc, ◌≡◌, refl, Bool, true, false, cond, List, [], ◌∷◌, ◌++◌, map, take}
use Rattle.std.proofs.Common.{sym, ap, ◌∙◌, append_assoc, append-nil}
use Rattle.text.specs.Lines.{KeptLine, kept, nothing_held, came, came_all, concat, last_kept, lines_of}
use Rattle.text.specs.LineLaws.{lines-of-chunks}
use Rattle.commands.specs.Commands.{longest_line, is_station_line}
use Rattle.printing.specs.Reports.{Offer, none, no_pair}
use Rattle.input_lines.specs.Runs.{ended, Run, start, phase_opened, opening_says, open_run, before_line, before_line_says, asked, phase_after, phase_says, next, says, run_after, says_all}
use Rattle.adjustment.specs.Chunks.{Takes}
use Rattle.adjustment.specs.Ends.{phase_ends, end_says, OffersAt}
use Rattle.night_print.specs.Closing.{Concludes}
use Rattle.night_print.specs.Print.{after_lines, print_of, Prints}
use Rattle.night_print.specs.PrintLaws.{kept_run, text_run, text_says, open_kept, end_kept}

-- ════ the statement
-- chunks ss taken one after the other from the run r, with k held of a line: they print t, and leave the run r' with k' held
pub data ChunksTaken : Run → KeptLine → List (List ℕ) → List ℕ → Run → KeptLine → Type 0 where
  no_more : {r : Run} {k : KeptLine} → ChunksTaken r k [] [] r k
  then-a-chunk :
      {r r₁ r₂ : Run} {k k₁ k₂ : KeptLine} {s before after t : List ℕ} {ss : List (List ℕ)} {p : ℕ} →
      Takes r k s before r₁ k₁ p after →
      ChunksTaken r₁ k₁ ss t r₂ k₂ →
      ChunksTaken r k (s ∷ ss) (take p after ++ t) r₂ k₂

-- one chunk more
pub chunks-more :
    {r r₁ r₂ : Run} {k k₁ k₂ : KeptLine} {s before after t : List ℕ} {ss : List (List ℕ)} {p : ℕ} →
    ChunksTaken r k ss t r₁ k₁ →
    Takes r₁ k₁ s before r₂ k₂ p after →
    ChunksTaken r k (ss ++ (s ∷ [])) (t ++ take p after) r₂ k₂
chunks-more {after = after} {p = p} no_more h = rw (append-nil (take p after)) at (then-a-chunk h no_more)
chunks-more {after = after} {p = p} (then-a-chunk {after = a} {t = t} {p = q} g c) h = rw (append_assoc (take q a) t (take p after)) (then-a-chunk g (chunks-more c h))

-- ════ one list of lines after another
run_append : (r : Run) (a b : List KeptLine) → run_after r (a ++ b) ≡ run_after (run_after r a) b
unfolding run_after
run_append r [] b = refl
run_append r (k ∷ a) b = run_append (next r k) a b

says-append : (r : Run) (a b : List KeptLine) → says_all r (a ++ b) ≡ says_all r a ++ says_all (run_after r a) b
unfolding run_after says_all
says-append r [] b = refl
says-append r (k ∷ a) b =
    ap (λ (t : List ℕ). says r k ++ t) (says-append (next r k) a b) ∙ sym (append_assoc (says r k) (says_all (next r k) a) (says_all (run_after (next r k) a) b))

-- ════ chunks
pub record ChunksCame (r : Run) (k : KeptLine) (ss : List (List ℕ)) (t : List ℕ) (r' : Run) (k' : KeptLine) : Type 0 where
  pub run : r' ≡ run_after r (came_all longest_line k ss).ended
  pub going : k' ≡ (came_all longest_line k ss).going
  pub said : t ≡ says_all r (came_all longest_line k ss).ended

pub chunks_came : {r r' : Run} {k k' : KeptLine} {ss : List (List ℕ)} {t : List ℕ} → ChunksTaken r k ss t r' k' → ChunksCame r k ss t r' k'
unfolding came_all run_after says_all
chunks_came no_more = record { run = refl; going = refl; said = refl }
chunks_came {r} {k = k} (then-a-chunk {s = s} {ss = ss} h c) =
    let d = chunks_came c in
    record {
      run = d.run ∙ rw (h.run, h.going) (sym (run_append r (came longest_line k s).ended (came_all longest_line (came longest_line k s).going ss).ended));
      going = d.going ∙ rw h.going;
      said =
          rw (h.printed, d.said, h.run, h.going)
          (sym (says-append r (came longest_line k s).ended (came_all longest_line (came longest_line k s).going ss).ended));
    }

-- ════ the lines of a text, each kept up to 50,000 bytes, print what the text prints
kept_lines : List ℕ → List KeptLine
kept_lines text = map (kept longest_line) (lines_of text)

-- a run over the kept lines of a text that ends at r, having printed t: with what the end prints it is what the text prints
prints-kept :
    {text t : List ℕ} {r : Run} {offer : Offer} →
    r ≡ run_after start (kept_lines text) →
    t ≡ says_all start (kept_lines text) →
    OffersAt r offer →
    Prints text (t ++ end_says r offer)
unfolding kept_lines print_of
prints-kept {text} {t} {r} {offer} e s o =
    let run : r ≡ kept_run (after_lines text) = e ∙ text_run text in
    record {
      offer = offer;
      offers = λ b z. o b (ap (λ (q : Run). (open_run q).phase) run ∙ open_kept (after_lines text) ∙ z);
      are = rw (s ∙ text_says text, run, end_kept (after_lines text) offer);
    }

-- ════ the theorem
pub whole-text :
    {ss : List (List ℕ)} {t before after : List ℕ} {r : Run} {k : KeptLine} {n : ℕ} →
    ChunksTaken start nothing_held ss t r k →
    Concludes r k before n after →
    Prints (concat ss) (t ++ take n after)
unfolding kept_lines
whole-text {ss} {t} {before} {after} {r} {k} {n} c e =
    let d = chunks_came c in
    let all : (came_all longest_line nothing_held ss).ended ++ last_kept k ≡ kept_lines (concat ss) = rw d.going (lines-of-chunks longest_line ss) in
    let run : run_after r (last_kept k) ≡ run_after start (kept_lines (concat ss)) =
    ap (λ (q : Run). run_after q (last_kept k)) d.run ∙ sym (run_append start (came_all longest_line nothing_held ss).ended (last_kept k)) ∙ ap (run_after start) all in
    let said : t ++ says_all r (last_kept k) ≡ says_all start (kept_lines (concat ss)) =
    rw (d.said, d.run) (sym (says-append start (came_all longest_line nothing_held ss).ended (last_kept k)) ∙ ap (says_all start) all) in
    rw e.printed (rw append_assoc at (prints-kept run said e.offers))

-- ════ a refused opening ends the run: nothing is printed after it, whatever comes
silent : (r : Run) (k : KeptLine) → r.phase ≡ ended → (says r k ≡ []) × ((next r k).phase ≡ ended)
unfolding says next before_line before_line_says opening_says phase_opened phase_says phase_after
silent r k e = by (is_station_line k.text)
  where
    by :
        (t : Bool) →
        (cond t [] (opening_says r.words r.phase) ++ phase_says (cond t r (open_run r)).phase (suc (cond t r (open_run r)).lines) (asked (cond t r (open_run r)) k) ≡ [])
        × (phase_after (cond t r (open_run r)).phase (asked (cond t r (open_run r)) k) ≡ ended)
    by true = rw e (refl, refl)
    by false = rw e (refl, refl)

pub ended_silent : (r : Run) (ks : List KeptLine) → r.phase ≡ ended → (says_all r ks ≡ []) × ((run_after r ks).phase ≡ ended)
unfolding says_all run_after
ended_silent r [] e = (refl, e)
ended_silent r (k ∷ ks) e =
    let s = silent r k e in
    let d = ended_silent (next r k) ks s.1 in
    (rw (s.0, d.0), d.1)

came-append : (k : KeptLine) (a b : List (List ℕ)) → (came_all longest_line k (a ++ b)).ended ≡ (came_all longest_line k a).ended ++ (came_all longest_line (came_all longest_line k a).going b).ended
unfolding came_all
came-append k [] b = refl
came-append k (s ∷ a) b =
    ap (λ (l : List KeptLine). (came longest_line k s).ended ++ l) (came-append (came longest_line k s).going a b)
    ∙ sym (append_assoc (came longest_line k s).ended (came_all longest_line (came longest_line k s).going a).ended (came_all longest_line (came_all longest_line (came longest_line k s).going a).going b).ended)

-- so a program that stops reading there has printed what the whole text prints, whatever chunks `rest` would have come
pub stopped-text :
    {ss : List (List ℕ)} {t : List ℕ} {r : Run} {k : KeptLine} (rest : List (List ℕ)) → ChunksTaken start nothing_held ss t r k → r.phase ≡ ended → Prints (concat (ss ++ rest)) t
unfolding kept_lines end_says opening_says phase_ends phase_opened
stopped-text {ss} {t} {r} {k} rest c e =
    let d = chunks_came c in
    let more : List KeptLine = (came_all longest_line (came_all longest_line nothing_held ss).going rest).ended ++ last_kept (came_all longest_line nothing_held (ss ++ rest)).going in
    let all : (came_all longest_line nothing_held ss).ended ++ more ≡ kept_lines (concat (ss ++ rest)) =
    sym (append_assoc (came_all longest_line nothing_held ss).ended (came_all longest_line (came_all longest_line nothing_held ss).going rest).ended (last_kept (came_all longest_line nothing_held (ss ++ rest)).going))
    ∙ ap (λ (l : List KeptLine). l ++ last_kept (came_all longest_line nothing_held (ss ++ rest)).going) (sym (came-append nothing_held ss rest))
    ∙ lines-of-chunks longest_line (ss ++ rest) in
    let q = ended_silent r more e in
    let run : run_after r more ≡ run_after start (kept_lines (concat (ss ++ rest))) =
    ap (λ (x : Run). run_after x more) d.run ∙ sym (run_append start (came_all longest_line nothing_held ss).ended more) ∙ ap (run_after start) all in
    let said : t ≡ says_all start (kept_lines (concat (ss ++ rest))) =
    sym (append-nil t) ∙ ap (λ (l : List ℕ). t ++ l) (sym q.0)
    ∙ rw (d.said, d.run) (sym (says-append start (came_all longest_line nothing_held ss).ended more))
    ∙ ap (says_all start) all in
    let silent-end : end_says (run_after r more) none ≡ [] = rw q.1 in
    rw (silent-end, append-nil) at (prints-kept run said (λ b z. no_pair))
