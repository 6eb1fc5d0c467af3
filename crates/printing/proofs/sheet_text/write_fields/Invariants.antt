-- The loop has written the fields of the words passed (`fields-more`), each in 22 bytes at most. Assumes nothing.
use mathlib.Core.Path.{◌≡◌}
use Rattle.text.specs.Writing.{Written}
use Rattle.printing.specs.SheetText.{fields}
use lib.ListN.{length}
use Prim.Native.Nat.{◌≤◌, ◌+◌, ◌*◌}
use Rattle.printing.proofs.sheet_text.write_fields.Given as goal

abbrev pub invariant-loop-i : goal.invariant-loop-i
invariant-loop-i l = (length l.out ≡ length l.initial.out) × (l.p ≤ l.at + l.i * 22) × Written l.initial.out l.at (fields l.w l.o l.i) l.p l.out
