-- The refusals in their order, and then the entries. Assumes nothing.
use mathlib.Core.Path.{sym, ◌∙◌}
use native.Mathlib.Omega.{arith}
use Rattle.book_files.specs.EnteringLaws.{entered-room, entered_unread, entered_done, left_stays, left_done}
use Rattle.book_files.proofs.entering.enter_file.Goals as goal

pub returns-then-answers-file : goal.returns-then-answers-file
returns-then-answers-file c = let same = left_stays _ _ _ _ in (entered-room _ _ (omega arith), same.0, same.1)

pub returns-then-not-holds_file : goal.returns-then-not-holds_file
returns-then-not-holds_file c =
    let same = left_stays _ _ _ _ in
    (entered_unread _ _ (omega arith) (sym c.holds_file.ensures ∙ c.if-not-holds_file.true), same.0, same.1)

pub enter_entries-requires : goal.enter_entries-requires
enter_entries-requires c = (c.requires, omega (arith, c.if-answers-file.false))

pub returns : goal.returns
returns c =
    let left = left_done _ _ _ c.enter_entries.ensures in
    (entered_done _ _ (omega arith) (sym c.holds_file.ensures ∙ c.if-not-holds_file.false), left.0, left.1)
