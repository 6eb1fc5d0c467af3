-- The bytes that are printed are within the lent ones (`Printed`). Assumes nothing.
use borrow.Author.Rules.{rules}
use Rattle.std.proofs.Common.{◌≤◌, length, arith}
use Rattle.night_print.specs.Texts.{Printed}
use Rattle.test_whole_texts.proofs.show.Goals as goal

pub slice_bounds-write_all-end : goal.slice_bounds-write_all-end
unfolding Printed
slice_bounds-write_all-end c = c.in-Some.ensures.1.within

pub slice_bounds-write_all-end-in-Some : goal.slice_bounds-write_all-end-in-Some
unfolding Printed
slice_bounds-write_all-end-in-Some c =
    let within : c.in-Some.n ≤ length c.print_text.new.out = c.in-Some.ensures.1.within in
    search rules
