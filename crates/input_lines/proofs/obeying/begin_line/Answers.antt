-- A line that opens leaves the opened book and the state after its answer (`begins-open`); any other leaves all as it came (`begins_stay`). Assumes nothing.
use mathlib.Core.Path.{sym, ◌∙◌}
use Rattle.input_lines.specs.StateLaws.{begins-open, begins_stay}
use Rattle.input_lines.proofs.obeying.begin_line.Goals as goal

pub returns-then-opens_at : goal.returns-then-opens_at
returns-then-opens_at c =
    let o = c.open_list-answer in
    rw c.opened-state.ensures (begins-open (sym c.opens_at.ensures ∙ c.if-opens_at.true) o.ensures o.auto.book c.write_opening-printed.ensures.written c.write_opening-printed.ensures.upper_bound)

pub returns : goal.returns
returns c = begins_stay (sym c.opens_at.ensures ∙ c.if-opens_at.false)
