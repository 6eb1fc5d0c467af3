-- By the number: 0 to 2 are cases of the definition, the place read back from its bits; any other is `other_row`. Assumes nothing.
use native.Mathlib.Omega.{arith}
use mir.Syntax.{w64}
use mir.Facts.{to_z-of_z}
use Rattle.book.specs.Rows.{row_of}
use Rattle.book.proofs.RowCases.{other_row}
use Rattle.book.proofs.rows.row_of.Goals as goal

pub returns-in-0 : goal.returns-in-0
unfolding row_of
returns-in-0 c = rw (c.in-0.is, to_z-of_z {w = w64} c.ranges.place)

pub returns-in-1 : goal.returns-in-1
unfolding row_of
returns-in-1 c = rw (c.in-1.is, to_z-of_z {w = w64} c.ranges.place)

pub returns-in-2 : goal.returns-in-2
unfolding row_of
returns-in-2 c = rw c.in-2.is

pub returns-in_default : goal.returns-in_default
returns-in_default c = other_row _ _ _ (λ e. omega arith) (λ e. omega arith) (λ e. omega arith)
