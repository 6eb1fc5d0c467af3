-- Too little room writes nothing; else the rooms made here are as long as `print_all` asks. Assumes nothing.
use borrow.Author.Tests.{leb-true}
use mathlib.Core.Path.{refl, sym, ◌∙◌}
use Rattle.std.proofs.Common.{rules}
use Rattle.night_print.specs.Texts.{Printed}
use Rattle.night_print.proofs.closing.print_text.Goals as goal

pub returns-then-not-has_room : goal.returns-then-not-has_room
unfolding Printed
returns-then-not-has_room c = (sym c.has_room.ensures ∙ c.if-not-has_room.true, refl)

pub print_all-requires : goal.print_all-requires
print_all-requires c = (search rules, search rules, search rules, search rules, search rules, leb-true _ _ (sym c.has_room.ensures ∙ c.if-not-has_room.false))

pub returns : goal.returns
unfolding Printed
returns c = (sym c.has_room.ensures ∙ c.if-not-has_room.false, c.print_all.ensures)
