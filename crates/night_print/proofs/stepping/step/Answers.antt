-- A chunk that came is taken, and the run reads on unless its opening was refused (`step_takes`). Assumes nothing.
use Rattle.std.specs.Prelude.{refl, Bool, cond}
use Rattle.std.proofs.Common.{sym, ap, ◌∙◌}
use Rattle.layout.specs.Bytes.{book_of}
use Rattle.night_print.specs.declared.Progress.TheVariants.{Reading, Refused}
use Rattle.night_print.specs.StepLaws.{ended_phase_lem, step_takes}
use Rattle.night_print.proofs.stepping.step.Goals as goal

pub returns-clause-steps : goal.returns-clause-steps
returns-clause-steps c =
    let t = c.take_chunk-next in
    rw c.in-Some.is
    (step_takes
    refl
    (λ z. c.if-chunk-eq0.false z)
    (c.progress_of.ensures ∙ ap (λ (b : Bool). cond b Refused Reading) (c.is_ended.ensures ∙ sym (ended_phase_lem t.result.state.phase (book_of t.new.rooms.book.now))))
    t.ensures.takes)
