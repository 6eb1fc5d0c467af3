-- `position_entry`: the eleven numbers (`of_these`), each stored in 64 bits and read again (`position-bits`), or none (`of_none`). Assumes nothing.
use Rattle.std.proofs.Common.{◌∙◌, sym, ap, ℕ, pos, Some, get_or, rules, w64, to_z, of_z}
use Rattle.network.specs.declared.Record.{Record}
use Rattle.commands.specs.CommandLaws.{of_none, of_these, position-bits}
use Rattle.commands.specs.Commands.{position_entry}
use Rattle.commands.specs.declared.Entry.{Entry}
use Rattle.commands.proofs.reading.position_line.Goals as goal

pub returns-in_err-place : goal.returns-in_err-place
returns-in_err-place c = c.from_residual.ensures ∙ of_none 11 _ position_entry _ (sym c.numbers.ensures ∙ c.in_err-place.was)

pub returns : goal.returns
returns c =
    let entry : Record → Entry = λ r. record { place = to_z w64 (of_z w64 (get_or c.in_ok-place.field-0 0 (pos 0))); of = r } in
    ap (λ (r : Record). Some (entry r)) c.position_of-of.ensures
    ∙ position-bits (λ (i : ℕ). get_or c.in_ok-place.field-0 i (pos 0)) (search rules) (search rules) (search rules) (search rules) (search rules) (search rules) (search rules) (search rules) (search rules) (search rules) (search rules)
    ∙ of_these 11 _ position_entry _ _ (sym c.numbers.ensures ∙ c.in_ok-place.was)
